-- Where the entries can be served in time: kind 1 leaves something of every interval to come, and in what it leaves there is room for the
-- others. Step B is a greedy step of the theory, so an interval keeps that and misses no deadline; and after an interval without a miss it
-- shows that it was so before it. Assumes nothing.
use Rattle.std.specs.Prelude.{◌≡◌, refl, Bool, true, false, cond, List, ℕ, zero, suc, ◌-◌, ◌/◌, ◌≤◌}
use Rattle.std.proofs.Common.{ap, subst, ◌∙◌, zero-le, arith}
use Rattle.std.proofs.Math.Path.{fun_ext}
use Rattle.spec_lists.specs.Lists.{sum_of, span}
use Rattle.base_lists.specs.All.{all_map}
use Rattle.base_lists.specs.Sums.{sum_ext, sum_same}
use Rattle.base_edf.specs.Time.{due}
use Rattle.base_edf.specs.Edf.{Source, source, rem, left, gone, next, dem, Greedy, NoMiss}
use Rattle.base_edf.proofs.Edf.{no_miss, room_next, greedy_total}
use Rattle.base_edf.proofs.Converse.{room_back}
use Rattle.spec_model.specs.Entries.{is_piece, asks}
use Rattle.spec_model.specs.declared.Entry.{Entry}
use Rattle.spec_model.specs.declared.Frame.{Frame}
use Rattle.spec_model.specs.Frames.{room_in}
use Rattle.spec_rules.specs.Share.{Grant, load_of, load, slots_for, capacity, step_b}
use Rattle.law_steps.specs.Sources.{source_of, load_at}
use Rattle.law_steps.proofs.Sources.{free_source, source_next, held_sound, load_free, load_now, load_next}
use Rattle.law_steps.specs.StepB.{step_b_of}
use Rattle.law_steps.proofs.StepB.{step_b_within, step_b_due}
use Rattle.law_ahead.specs.Moved.{Together, step_of, moved, MayGive}
use Rattle.law_ahead.proofs.Moved.{moved_sum}
use Rattle.law_ahead.specs.Timely.{loads_at, spare_at, Timely, piece_of}

-- the load that step A counts
pub loads_now : (F : Frame) (es : List Entry) → Together F es → load es ≡ loads_at es 0
unfolding load
loads_now F es w =
    sum_ext load_of (λ e. load_at e 0) (all_map (λ e h. load_now h) w.held)

-- ---- step B is a greedy step
step_b_greedy : (F : Frame) (es : List Entry) → Together F es → Greedy source_of es (piece_of F es) (capacity F es)
unfolding source_of
step_b_greedy F es w =
    record {
      within = all_map (λ e h. below e (is_piece e) h) (step_b_within F es w.once);
      first = λ d. omega (
        arith,
        step_b_due F es w.once d,
        sum_same (λ e. due (left (source_of e)) d (piece_of F es e)) (λ e. cond (is_piece e) (due e.left.0 d (step_b_of F es e)) 0) es
            (λ e. given e (is_piece e) d (step_b_of F es e)),
        sum_same (λ e. due (left (source_of e)) d (rem (source_of e)))
            (λ (e : Entry). cond (is_piece e) (due e.left.0 d e.owed.0) 0) es (λ e. owed e (is_piece e) d),
      );
    }
  where
    at : Entry → Bool → Source
    at e b = cond b (source e.owed.0 e.left.0 (asks e) e.period.0 ((e.life_left.0 - e.left.0) / e.period.0)) gone

    below : (e : Entry) (b : Bool) → (b ≡ true → step_b_of F es e ≤ e.owed.0) → cond b (step_b_of F es e) 0 ≤ rem (at e b)
    below e true h = h refl
    below e false h = zero-le

    given : (e : Entry) (b : Bool) (d v : ℕ) → due (left (at e b)) d (cond b v 0) ≡ cond b (due e.left.0 d v) 0
    given e true d v = refl
    given e false d v = refl

    owed : (e : Entry) (b : Bool) (d : ℕ) → due (left (at e b)) d (rem (at e b)) ≡ cond b (due e.left.0 d e.owed.0) 0
    owed e true d = refl
    owed e false d = refl

-- ---- an interval
module _ (F : Frame) (cs : List Grant) (es : List Entry) (w : Together F es) (x : MayGive (step_b F es) cs es) where
  moved_loads : (t : ℕ) → loads_at (moved (step_b F es) cs es) t ≡ loads_at es (suc t)
  moved_loads t =
      moved_sum F (step_b F es) cs es w x (λ e. load_at e t) (load_free t)
      ∙ sum_same (λ e. load_at (step_of (step_b F es) cs e) t) (λ e. load_at e (suc t)) es
      (λ e. load_next (step_b_of F es e) (slots_for e.name cs) e t)

  moved_spare : spare_at F (moved (step_b F es) cs es) ≡ (λ u. spare_at F es (suc u))
  moved_spare = fun_ext (λ t. ap (λ v. room_in F - v) (moved_loads t))

  -- what the entries ask after the interval is what their sources ask after a step
  moved_dems : (s d : ℕ)
      → sum_of (λ e. dem (source_of e) s d) (moved (step_b F es) cs es) ≡ sum_of (λ e. dem (next (source_of e) (piece_of F es e)) s d) es
  moved_dems s d =
      moved_sum F (step_b F es) cs es w x (λ e. dem (source_of e) s d) (ap (λ a. dem a s d) free_source ∙ none s)
      ∙ sum_ext (λ e. dem (source_of (step_of (step_b F es) cs e)) s d) (λ e. dem (next (source_of e) (piece_of F es e)) s d)
      (all_map (λ e h. ap (λ a. dem a s d) (source_next F (step_b_of F es e) (slots_for e.name cs) e h)) w.held)
    where
      none : (s : ℕ) → dem gone s d ≡ 0
      none zero = refl
      none (suc s) = refl

  greedy_now : Greedy source_of es (piece_of F es) (spare_at F es 0)
  greedy_now = subst (Greedy source_of es (piece_of F es)) (ap (λ v. room_in F - v) (loads_now F es w)) (step_b_greedy F es w)

  -- no deadline is missed
  pub timely_meets : Timely F es → NoMiss source_of es (piece_of F es)
  timely_meets f = no_miss source_of (spare_at F es) greedy_now f.room

  pub timely_on : Timely F es → Timely F (moved (step_b F es) cs es)
  timely_on f =
      record {
        load = λ t. omega (arith, f.load (suc t), moved_loads t);
        room = λ s d. omega (
          arith,
          moved_dems s d,
          room_next source_of (spare_at F es) greedy_now f.room s d,
          ap (λ c. span c s d) moved_spare,
        );
      }

  -- and back, where kind 1 fits the interval and no deadline is missed in it
  pub timely_back : load es ≤ room_in F → NoMiss source_of es (piece_of F es) → Timely F (moved (step_b F es) cs es) → Timely F es
  timely_back l m f =
      record {
        load = each;
        room = room_back source_of (spare_at F es) (all_map (λ e h. held_sound h) w.held)
            (omega (arith, greedy_total source_of greedy_now)) m
            (λ s d. omega (arith, moved_dems s d, f.room s d, ap (λ c. span c s d) moved_spare));
      }
    where
      each : (t : ℕ) → loads_at es t ≤ room_in F
      each zero = omega (arith, loads_now F es w)
      each (suc t) = omega (arith, f.load t, moved_loads t)
