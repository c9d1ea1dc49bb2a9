-- A turn of looking ahead, by the figures of the first places: what each step asks, and what is known past the end. Assumes nothing.
use Rattle.std.proofs.Common.{◌≡◌, Bool, false, List, ℕ, ◌*◌, ◌-◌, ◌≤◌, ◌<◌, refl, map, sum_by, length, All, sym, ap, subst, ◌∙◌, mul-le-mul, arith}
use Rattle.law_model.specs.Frames.{most_slots, room_most}
use Rattle.law_steps.proofs.Closed.{slots_most}
use Rattle.spec_model.specs.Tables.{places}
use Rattle.ahead_figures.specs.Arrays.{table_of}
use Rattle.ahead_figures.specs.Columns.{owing}
use Rattle.ahead_figures.specs.Figures.{longest, never}
use Rattle.ahead_figures.specs.declared.Figures.{Figures}
use Rattle.ahead_serve.specs.Serving.{due_of, left_of, unpaid, Ranked}
use Rattle.ahead_serve.specs.Places.{due_at, paid_at, due_table, paid_table}
use Rattle.ahead_next.specs.Ends.{first_end}
use Rattle.ahead_next.specs.EndLaws.{load_padded}
use Rattle.ahead_pass.specs.Passed.{passed_end, InRoom, Roomy, PassedEnds}
use Rattle.ahead_pass.specs.PassingLaws.{passed_table, roomy_table}
use Rattle.law_figures.specs.Looking.{Looking}
use Rattle.law_figures.proofs.Looking.{for_serve, for_pass, at_soon, looking_late, looking_next}

module _ {v : Bool} {room used now taken at : ℕ} (fs : List Figures) (k : Looking v room used now taken (table_of fs))
    (f : at ≡ first_end (table_of fs).ends) (g : at ≡ never → ⊥) where
  abbrev slots : ℕ
  slots = (at - now) * (room - taken)

  pub slots_fit : slots ≤ longest * most_slots
  slots_fit =
      let few : at - now ≤ longest = omega (arith, (at_soon k f g).1) in
      let free : room - taken ≤ most_slots = omega (arith, room_most k.table.frame, slots_most k.table k.tidy, k.frame) in
      mul-le-mul few free

  abbrev rest : List ℕ
  rest = unpaid at (table_of fs).ends (table_of fs).owed

  -- what is due is paid
  module _ {due : ℕ} (q : due ≡ sum_by (due_at at) fs) where
    due_is : due ≡ due_of at (table_of fs).ends (table_of fs).owed
    due_is = q ∙ due_table at fs

    pub late : slots < due → false ≡ v
    late h = looking_late k f g refl due_is h

    module _ {gs : List Figures} (p : gs ≡ map (paid_at at) fs) where
      paid_is : table_of gs ≡ owing rest (table_of fs)
      paid_is = ap table_of p ∙ paid_table at fs

      pub to_serve : Ranked (table_of gs).ranks (table_of gs).owed used
      to_serve = subst (λ c. Ranked c.ranks c.owed used) (sym paid_is) (for_serve k at)

      -- the slots that are left serve what is due later
      module _ (hs : List Figures)
          (s : table_of hs ≡ owing (left_of (slots - due) (table_of gs).ranks (table_of gs).owed) (table_of gs)) (n : length hs ≤ places) where
        left_is : table_of hs ≡ owing (left_of (slots - due) (table_of fs).ranks rest) (table_of fs)
        left_is = subst (λ c. table_of hs ≡ owing (left_of (slots - due) c.ranks c.owed) c) paid_is s

        pub to_pass : All (λ h. InRoom h at) hs
        to_pass =
            roomy_table hs n (subst (λ c. Roomy c used at) (sym left_is) (for_pass k at (slots - due) (at_soon k f g).1))

        -- what it knows past the end
        pub past : due ≤ slots → {js : List Figures} → js ≡ map (passed_end at) hs → {taken' : ℕ} → taken' ≡ sum_by (λ f. f.load.0) js
            → Looking v room used at taken' (table_of js)
        past h {js} a l =
            looking_next k f g refl due_is h
            (subst (λ c. PassedEnds at c (table_of js)) left_is
            (subst (λ is. PassedEnds at (table_of hs) (table_of is)) (sym a) (passed_table at hs n (omega (arith, (at_soon k f g).1)))))
            (l ∙ load_padded js)
