-- Entries and tables: the held entries of a well-formed table stand together and fit; so do the same entries in other places, and
-- fewer of them; what a change of every place, or a new entry in a free place, makes of the held entries; and that an interval
-- leaves a table tidy. Assumes nothing.
use Rattle.std.specs.Prelude.{◌≡◌, refl, ◌⊎◌, Bool, true, false, cond, List, [], ◌∷◌, map, ℕ, suc, ◌≤◌, ◌<◌, length}
use Rattle.std.proofs.Common.{sym, ap, subst, ◌∙◌, inl, inr, ⊎_elim, le_of_eq, arith}
use Rattle.std.proofs.Math.ListN.{length-map}
use Rattle.spec_lists.specs.Lists.{one_if, cons_if, keep, sum_of}
use Rattle.spec_lists.specs.All.{All, stop, and}
use Rattle.base_lists.specs.Tests.{same_test}
use Rattle.base_lists.specs.All.{head, tail, all_zip, all_of_map, all_kept}
use Rattle.base_lists.specs.Picked.{Picked, here, there, picked_all, picked_sum}
use Rattle.base_edf.specs.Time.{span_le}
use Rattle.base_edf.specs.Edf.{dem}
use Rattle.spec_model.specs.Entries.{free_entry, is_held, is_named, asks}
use Rattle.spec_model.specs.declared.Entry.{Entry}
use Rattle.spec_model.specs.declared.Table.{Table}
use Rattle.spec_model.specs.declared.Frame.{Frame}
use Rattle.spec_model.specs.Frames.{slots_in, header_in}
use Rattle.spec_model.specs.Tables.{held_of}
use Rattle.spec_rules.specs.Share.{Grant, slots_for}
use Rattle.spec_rules.specs.Ahead.{step_f, fits_ahead}
use Rattle.spec_rules.specs.Calls.{placed}
use Rattle.spec_rules.specs.WellFormed.{Held, WellFormed, Tidy}
use Rattle.law_model.specs.Frames.{frame_some, header_less}
use Rattle.law_steps.proofs.Held.{held_is}
use Rattle.law_steps.proofs.Header.{test_fewer}
use Rattle.law_steps.specs.Settled.{Granted}
use Rattle.law_steps.proofs.Settled.{settled_held, after_free}
use Rattle.law_steps.specs.Sources.{source_of, load_at}
use Rattle.law_steps.proofs.Places.{tidy_held}
use Rattle.law_ahead.specs.Moved.{Together, step_of, moved, MayGive}
use Rattle.law_ahead.proofs.Moved.{moved_together}
use Rattle.law_ahead.specs.Timely.{Timely, spare_at}
use Rattle.law_ahead.specs.Fits.{Fits}
use Rattle.law_ahead.proofs.Fits.{ahead_fits, fits_ahead_lem}
use Rattle.law_ahead.specs.Tables.{stepped}

-- ---- the held entries of a table
pub tidy_together : {t : Table} → Tidy t → Together t.frame (held_of t)
tidy_together w = record { held = tidy_held w; once = w.once }

pub formed_together : {t : Table} → WellFormed t → Together t.frame (held_of t)
formed_together w = tidy_together w.tidy

pub formed_fits : {t : Table} → WellFormed t → Fits t.frame (held_of t)
formed_fits {t} w = ahead_fits t.frame (held_of t) (formed_together w) w.fits

-- a tidy table whose entries fit is well formed
pub tidy_formed : {t : Table} → Tidy t → Fits t.frame (held_of t) → WellFormed t
tidy_formed {t} w f =
    record { tidy = w; fits = fits_ahead_lem t.frame (held_of t) (tidy_together w) f }

pub tidy_some : {t : Table} → Tidy t → 1 ≤ slots_in t.frame
tidy_some w = omega (arith, frame_some w.setting)

pub formed_header : {t : Table} → WellFormed t → header_in t.frame < slots_in t.frame
formed_header w = header_less w.tidy.setting

-- ---- entries of which some stand otherwise
-- entries over which every sum is at most as large
fewer_timely : (F : Frame) (es fs : List Entry) → ((f : Entry → ℕ) → sum_of f fs ≤ sum_of f es) → Timely F es → Timely F fs
fewer_timely F es fs less f =
    record {
      load = λ t. omega (arith, less (λ e. load_at e t), f.load t);
      room = λ s d. omega (
        arith,
        less (λ e. dem (source_of e) s d),
        f.room s d,
        span_le (spare_at F es) (spare_at F fs) s d (λ u. omega (arith, less (λ e. load_at e u))),
      );
    }

pub fewer_fits : (F : Frame) (es fs : List Entry) → ((f : Entry → ℕ) → sum_of f fs ≤ sum_of f es) → Fits F es → Fits F fs
fewer_fits F es fs less f = record { test = test_fewer F asks es fs less f.test; timely = fewer_timely F es fs less f.timely }

-- the same entries, one of them elsewhere
module _ (F : Frame) {e : Entry} {es fs : List Entry} (k : Picked e es fs) where
  pub picked_together : Together F (e ∷ fs) → Together F es
  picked_together w =
      record {
        held = picked_all k (head w.held) (tail w.held);
        once = λ s. omega (arith, w.once s, picked_sum (λ (f : Entry). one_if (is_named s f)) k);
      }

  pub picked_fits : Fits F (e ∷ fs) → Fits F es
  picked_fits = fewer_fits F (e ∷ fs) es (λ f. le_of_eq (picked_sum f k))

  pub picked_back : Fits F es → Fits F (e ∷ fs)
  picked_back = fewer_fits F es (e ∷ fs) (λ f. le_of_eq (sym (picked_sum f k)))

  -- looking ahead says the same of both
  pub picked_ahead : Together F (e ∷ fs) → fits_ahead F es ≡ fits_ahead F (e ∷ fs)
  picked_ahead w =
      let p = picked_together w in
      same_test (fits_ahead F es) (fits_ahead F (e ∷ fs)) (λ h. fits_ahead_lem F (e ∷ fs) w (picked_back (ahead_fits F es p h)))
      (λ h. fits_ahead_lem F es p (picked_fits (ahead_fits F (e ∷ fs) w h)))

-- ---- a new entry in a free place
pub placed_all : {P : Entry → Type 0} (e : Entry) → P e → {es : List Entry} → All P es → All P (placed e es)
unfolding placed
placed_all e p stop = stop
placed_all {P} e p (and {x = f} {xs = fs} q h) = go (is_held f) (placed_all e p h)
  where
    go : (b : Bool) → All P (placed e fs) → All P (cond b (f ∷ placed e fs) (e ∷ fs))
    go true r = and q r
    go false r = and p h

pub placed_length : (e : Entry) (es : List Entry) → length (placed e es) ≡ length es
unfolding placed
placed_length e [] = refl
placed_length e (f ∷ fs) = go (is_held f) (placed_length e fs)
  where
    go : (b : Bool) → length (placed e fs) ≡ length fs → length (cond b (f ∷ placed e fs) (e ∷ fs)) ≡ suc (length fs)
    go true h = ap suc h
    go false h = refl

-- where a place is free, the held entries are those before, and the new one
pub placed_picked : (e : Entry) (es : List Entry) → is_held e ≡ true → length (keep is_held es) < length es
    → Picked e (keep is_held (placed e es)) (keep is_held es)
unfolding placed
placed_picked e [] h q = absurd (omega arith)
placed_picked e (f ∷ fs) h q = go (is_held f) refl q (placed_picked e fs h)
  where
    go : (b : Bool) → is_held f ≡ b → length (cons_if b f (keep is_held fs)) < suc (length fs)
        → (length (keep is_held fs) < length fs → Picked e (keep is_held (placed e fs)) (keep is_held fs))
        → Picked e (keep is_held (cond b (f ∷ placed e fs) (e ∷ fs))) (cons_if b f (keep is_held fs))
    go true z q r = rw z (there (r (omega arith)))
    go false z q r = rw h here

-- ---- every place changed
-- a change that leaves free places free changes the held entries alone
pub keep_free : {P : Entry → Type 0} (f : Entry → Entry) → f free_entry ≡ free_entry → {es : List Entry} → All (λ e. (e ≡ free_entry) ⊎ P e) es
    → ((e : Entry) → P e → is_held e ≡ true) → keep is_held (map f es) ≡ keep is_held (map f (keep is_held es))
keep_free f z stop h = refl
keep_free {P} f z (and {x = e} {xs = es} p r) h = go p (keep_free f z r h)
  where
    go : (e ≡ free_entry) ⊎ P e → keep is_held (map f es) ≡ keep is_held (map f (keep is_held es))
        → keep is_held (map f (e ∷ es)) ≡ keep is_held (map f (keep is_held (e ∷ es)))
    go (inl q) ih = rw (q, z) ih
    go (inr q) ih = rw (h e q) (ap (cons_if (is_held (f e)) (f e)) ih)

module _ (bs cs : List Grant) (t : Table) (w : Tidy t) where
  abbrev F : Frame
  F = t.frame

  abbrev es : List Entry
  es = held_of t

  abbrev steps : Entry → Entry
  steps = step_of bs cs

  pub stepped_held : held_of (stepped bs cs t) ≡ moved bs cs es
  unfolding step_f
  stepped_held = keep_free steps (after_free _ _) w.entries (λ e h. held_is h)

  stepped_entries : MayGive bs cs es → All (λ e. (e ≡ free_entry) ⊎ Held F e) (map steps t.entries)
  stepped_entries x =
      all_of_map steps
      (all_zip one w.entries (all_kept (λ e. Granted (slots_for e.name bs) (slots_for e.name cs) e) is_held t.entries x))
    where
      one : (e : Entry) → (e ≡ free_entry) ⊎ Held F e → (is_held e ≡ true → Granted (slots_for e.name bs) (slots_for e.name cs) e)
          → (steps e ≡ free_entry) ⊎ Held F (steps e)
      one e (inl q) g = inl (ap steps q ∙ after_free _ _)
      one e (inr h) g = ⊎_elim inl (λ r. inr r.1) (settled_held F _ _ e h (g (held_is h)))

  pub stepped_tidy : MayGive bs cs es → Tidy (stepped bs cs t)
  unfolding step_f
  stepped_tidy x =
      record {
        setting = w.setting;
        size = length-map t.entries steps ∙ w.size;
        entries = stepped_entries x;
        once = (subst (Together F) (sym stepped_held) (moved_together F bs cs es (tidy_together w) x)).once;
      }
