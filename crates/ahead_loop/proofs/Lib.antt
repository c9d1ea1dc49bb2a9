mod Turn
mod Beginning
