pub mod RoundingUp
