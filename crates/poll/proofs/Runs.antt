-- The loop of a poll, on lists: after i of the first m events, what is left of them leads to the end that is asked. It
-- serves any single step. Assumes nothing.
use mathlib.Core.Path.{◌≡◌, sym, ◌∙◌, ap, subst}
use mathlib.Core.Bool.{true, false}
use mathlib.Core.List.{List, [], ◌∷◌, ◌++◌, append_assoc}
use Prim.Native.Nat.{ℕ, suc, ◌+◌, ◌<◌, ◌≤◌}
use native.Mathlib.Nat.{add-zero, zero-add, suc-add, add-suc, lt-suc_self}
use native.Mathlib.Numerals.{add-one}
use lib.ListN.{length, take, drop, get_or, set, take-append-drop}
use lib.Seq.{drop-cons, take-suc-set, drop-length, drop-set-lt, set_split, get_or-take, length-take-le}
use Rattle.format.specs.Pick.{pick}
use Rattle.format.proofs.Laws.Pick.{pick_yes, pick_no}
use Rattle.chip_device.specs.declared.device.Device.{Device}
use Rattle.chip_step.specs.declared.chip.Answer.{Answer}
use Rattle.records.specs.declared.records.EventRecord.{EventRecord}
use Rattle.records.specs.declared.records.Seen.{Seen}
use Rattle.poll.specs.Poll.{seen_in, is_refused, After, untouched, more, poll_from}

abbrev pub no_event : EventRecord
no_event = record { kind = 0; reg = 0; byte = 0 }

abbrev pub no_seen : Seen
no_seen = record { number = 0; «data» = 0; fresh = false; irq = false; txda = false; txdb = false; op = 0 }

module _ (step : Device → EventRecord → Answer) (goal : After) (es : List EventRecord) (m : ℕ) where
  -- what is left after i events, at the state s, with the answers zs
  abbrev left : ℕ → Device → List Seen → After
  left i s zs = poll_from step s (drop i (take m es)) (drop i zs)

  -- the loop goes on
  pub record Sofar (i : ℕ) (s : Device) (zs : List Seen) : Type 0 where
    pub count : i + (left i s zs).count ≡ goal.count
    pub state : (left i s zs).state ≡ goal.state
    pub answers : take i zs ++ (left i s zs).answers ≡ goal.answers

  -- the loop is left
  pub record Done (i : ℕ) (s : Device) (zs : List Seen) : Type 0 where
    pub count : i ≡ goal.count
    pub state : s ≡ goal.state
    pub answers : zs ≡ goal.answers

  pub starts : (d : Device) (xs : List Seen) → goal ≡ poll_from step d (take m es) xs → Sofar 0 d xs
  starts d xs e = record {
    count = zero-add _ ∙ sym (ap (λ (r : After). r.count) e);
    state = sym (ap (λ (r : After). r.state) e);
    answers = sym (ap (λ (r : After). r.answers) e);
  }

  module _ (i : ℕ) (s : Device) (zs : List Seen) (h : Sofar i s zs) where
    -- no event is left
    pub settled : i ≡ m → m ≤ length es → Done i s zs
    unfolding poll_from
    settled e l = record {
      count = sym (ap (λ (r : After). i + r.count) none ∙ add-zero i) ∙ h.count;
      state = sym (ap (λ (r : After). r.state) none) ∙ h.state;
      answers = sym (take-append-drop i zs) ∙ sym (ap (λ (r : After). take i zs ++ r.answers) none) ∙ h.answers;
    }
      where
        none : left i s zs ≡ untouched s (drop i zs)
        none =
            ap (λ (r : List EventRecord). poll_from step s r (drop i zs))
            (ap (λ (k : ℕ). drop k (take m es)) (e ∙ sym (length-take-le m es l)) ∙ drop-length (take m es))

    -- event i is taken
    module _ (l : i < m) (b : m ≤ length es) (z : i < length zs) where
      abbrev a : Answer
      a = step s (get_or es i no_event)

      abbrev rest : After
      rest = poll_from step a.state (drop (suc i) (take m es)) (drop (suc i) zs)

      one : left i s zs ≡ more (seen_in a) (pick (is_refused a) (untouched a.state (drop (suc i) zs)) rest)
      unfolding poll_from
      one =
          ap (λ (r : List EventRecord). poll_from step s r (drop i zs))
          (drop-cons (take m es) i no_event (subst (λ (k : ℕ). i < k) (sym (length-take-le m es b)) l)
          ∙ ap (λ (e : EventRecord). e ∷ drop (suc i) (take m es)) (get_or-take m es i no_event l))
          ∙ ap (λ (r : List Seen). poll_from step s (get_or es i no_event ∷ drop (suc i) (take m es)) r)
          (drop-cons zs i no_seen z)

      -- it is refused
      pub over : is_refused a ≡ true → Done (i + 1) a.state (set zs i (seen_in a))
      over r = record {
        count = sym (ap (λ (r : After). i + r.count) un) ∙ h.count;
        state = sym (ap (λ (r : After). r.state) un) ∙ h.state;
        answers = set_split zs i (seen_in a) z ∙ sym (ap (λ (r : After). take i zs ++ r.answers) un) ∙ h.answers;
      }
        where
          un : left i s zs ≡ more (seen_in a) (untouched a.state (drop (suc i) zs))
          un = one ∙ ap (more (seen_in a)) (pick_yes _ _ _ r)

      -- it is not
      pub on : is_refused a ≡ false → Sofar (i + 1) a.state (set zs i (seen_in a))
      on r =
          subst (λ (k : ℕ). Sofar k a.state (set zs i (seen_in a))) (sym (add-one i))
          (record {
            count = ap (λ (r : After). suc i + r.count) stays ∙ suc-add i rest.count ∙ sym (add-suc i rest.count)
                ∙ sym (ap (λ (r : After). i + r.count) un) ∙ h.count;
            state = ap (λ (r : After). r.state) stays ∙ sym (ap (λ (r : After). r.state) un) ∙ h.state;
            answers = ap (λ (r : After). take (suc i) (set zs i (seen_in a)) ++ r.answers) stays
                ∙ ap (λ (r : List Seen). r ++ rest.answers) (take-suc-set zs i (seen_in a) z)
                ∙ append_assoc (take i zs) (seen_in a ∷ []) rest.answers
                ∙ sym (ap (λ (r : After). take i zs ++ r.answers) un) ∙ h.answers;
          })
        where
          un : left i s zs ≡ more (seen_in a) rest
          un = one ∙ ap (more (seen_in a)) (pick_no _ _ _ r)

          stays : left (suc i) a.state (set zs i (seen_in a)) ≡ rest
          stays =
              ap (λ (r : List Seen). poll_from step a.state (drop (suc i) (take m es)) r)
              (drop-set-lt (suc i) zs i (seen_in a) (lt-suc_self i))
