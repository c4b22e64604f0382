-- What a poll says, in its reader's words: of a list of events by any single step, and then of the call, with k its
-- count. Each by induction on the list, an event at a time. Assumes nothing.
--     one_by_one         the state is the one after the first k events, one by one
--     written            the answers written are those of the single steps to these events, in their order
--     later-stay         the answers from k on are as they were
--     as_many            there are as many answers as before
--     at_most            no more events are counted than there are, and no more than there is room for
--     accepted-before    every event before the last of the k was accepted
--     last-refused       where k is less than the list's length, the last of the k was refused
--     refused-call       a refused call writes nothing, counts 0 and returns the state as given
use mathlib.Core.Path.{◌≡◌, refl, sym, ap, subst}
use mathlib.Core.Bool.{Bool, true, false}
use mathlib.Core.List.{List, [], ◌∷◌, map}
use Prim.Native.Nat.{ℕ, zero, suc, ◌<◌, ◌≤◌, zero-le, suc-le-suc}
use native.Mathlib.Nat.{le_of_suc-le-suc, not-suc-le-zero}
use lib.ListN.{length, take, drop, get_or}
use lib.Dec.{eqb}
use borrow.Author.Tests.{eqb-true, eqb-false, ne_eqb, eq-eqb, not-true, not-false}
use Rattle.format.specs.Pick.{pick}
use Rattle.format.proofs.Laws.Pick.{pick_yes, pick_no, pick_all}
use Rattle.chip_device.specs.declared.device.Device.{Device}
use Rattle.chip_step.specs.declared.chip.Answer.{Answer}
use Rattle.records.specs.declared.records.EventRecord.{EventRecord}
use Rattle.records.specs.declared.records.Seen.{Seen}
use Rattle.poll.specs.Step.{single_of}
use Rattle.poll.specs.Poll.{seen_in, is_refused, After, poll_from, poll_refusal, after_poll, polled_of, answers_after}
use Rattle.poll.proofs.Runs.{no_event}
use Rattle.poll.proofs.Asked.{room_given}

-- what holds of both ends of a turn holds of the turn, and each may know how the test went
either : (P : After → Type 0) (t : Bool) (r s : After) → (t ≡ true → P r) → (t ≡ false → P s) → P (pick t r s)
unfolding pick
either P true r s p q = p refl
either P false r s p q = q refl

module _ (step : Device → EventRecord → Answer) where
  -- ---- events one by one
  unfoldable pub state_after : Device → List EventRecord → Device
  state_after d [] = d
  state_after d (e ∷ es) = state_after (step d e).state es

  unfoldable pub answers_to : Device → List EventRecord → List Answer
  answers_to d [] = []
  answers_to d (e ∷ es) = step d e ∷ answers_to (step d e).state es

  -- the answer to event i, the events before it being done
  abbrev pub answer_at : Device → List EventRecord → ℕ → Answer
  answer_at d es i = step (state_after d (take i es)) (get_or es i no_event)

  -- ---- a list of events
  from-one-by-one : (d : Device) (es : List EventRecord) (xs : List Seen)
      → (poll_from step d es xs).state ≡ state_after d (take (poll_from step d es xs).count es)
  unfolding poll_from state_after
  from-one-by-one d [] xs = refl
  from-one-by-one d (e ∷ es) [] = refl
  from-one-by-one d (e ∷ es) (x ∷ xs) =
      either (λ (r : After). r.state ≡ state_after (step d e).state (take r.count es)) (is_refused (step d e)) _ _
      (λ _. refl) (λ _. from-one-by-one (step d e).state es xs)

  from-written : (d : Device) (es : List EventRecord) (xs : List Seen)
      → take (poll_from step d es xs).count (poll_from step d es xs).answers
      ≡ map seen_in (answers_to d (take (poll_from step d es xs).count es))
  unfolding poll_from answers_to
  from-written d [] xs = refl
  from-written d (e ∷ es) [] = refl
  from-written d (e ∷ es) (x ∷ xs) =
      ap (λ (r : List Seen). seen_in (step d e) ∷ r)
      (either
      (λ (r : After). take r.count r.answers ≡ map seen_in (answers_to (step d e).state (take r.count es)))
      (is_refused (step d e)) _ _ (λ _. refl) (λ _. from-written (step d e).state es xs))

  from-later-stay : (d : Device) (es : List EventRecord) (xs : List Seen)
      → drop (poll_from step d es xs).count (poll_from step d es xs).answers ≡ drop (poll_from step d es xs).count xs
  unfolding poll_from
  from-later-stay d [] xs = refl
  from-later-stay d (e ∷ es) [] = refl
  from-later-stay d (e ∷ es) (x ∷ xs) =
      either (λ (r : After). drop r.count r.answers ≡ drop r.count xs) (is_refused (step d e)) _ _
      (λ _. refl) (λ _. from-later-stay (step d e).state es xs)

  from-as-many : (d : Device) (es : List EventRecord) (xs : List Seen)
      → length (poll_from step d es xs).answers ≡ length xs
  unfolding poll_from
  from-as-many d [] xs = refl
  from-as-many d (e ∷ es) [] = refl
  from-as-many d (e ∷ es) (x ∷ xs) =
      ap suc (either (λ (r : After). length r.answers ≡ length xs) (is_refused (step d e)) _ _
      (λ _. refl) (λ _. from-as-many (step d e).state es xs))

  from-at-most : (d : Device) (es : List EventRecord) (xs : List Seen)
      → ((poll_from step d es xs).count ≤ length es) × ((poll_from step d es xs).count ≤ length xs)
  unfolding poll_from
  from-at-most d [] xs = (zero-le, zero-le)
  from-at-most d (e ∷ es) [] = (zero-le, zero-le)
  from-at-most d (e ∷ es) (x ∷ xs) =
      either (λ (r : After). (suc r.count ≤ length (e ∷ es)) × (suc r.count ≤ length (x ∷ xs)))
      (is_refused (step d e)) _ _ (λ _. (suc-le-suc zero-le, suc-le-suc zero-le))
      (λ _. let m = from-at-most (step d e).state es xs in (suc-le-suc m.0, suc-le-suc m.1))

  from-accepted : (d : Device) (es : List EventRecord) (xs : List Seen) (i : ℕ)
      → suc i < (poll_from step d es xs).count → (answer_at d es i).number ≡ 0
  unfolding poll_from state_after
  from-accepted d [] xs i l = absurd (not-suc-le-zero l)
  from-accepted d (e ∷ es) [] i l = absurd (not-suc-le-zero l)
  from-accepted d (e ∷ es) (x ∷ xs) zero l =
      either (λ (r : After). 1 < suc r.count → (step d e).number ≡ 0) (is_refused (step d e)) _ _
      (λ _ l. absurd (not-suc-le-zero (le_of_suc-le-suc l)))
      (λ t _. eqb-true (step d e).number 0 (not-false (eqb (step d e).number 0) t)) l
  from-accepted d (e ∷ es) (x ∷ xs) (suc i) l =
      either (λ (r : After). suc (suc i) < suc r.count → (answer_at (step d e).state es i).number ≡ 0)
      (is_refused (step d e)) _ _ (λ _ l. absurd (not-suc-le-zero (le_of_suc-le-suc l)))
      (λ _ l. from-accepted (step d e).state es xs i (le_of_suc-le-suc l)) l

  -- k counts some events, and the last of them was refused
  abbrev pub EndsRefused : Device → List EventRecord → ℕ → Type 0
  EndsRefused d es k = (j : ℕ) × (k ≡ suc j) × ((answer_at d es j).number ≡ 0 → ⊥)

  one_later : (d : Device) (e : EventRecord) (es : List EventRecord) (k : ℕ) → EndsRefused (step d e).state es k
      → EndsRefused d (e ∷ es) (suc k)
  unfolding state_after
  one_later d e es k (j, q, r) = (suc j, ap suc q, r)

  from_last : (d : Device) (es : List EventRecord) (xs : List Seen) → length es ≤ length xs
      → (poll_from step d es xs).count < length es → EndsRefused d es (poll_from step d es xs).count
  unfolding poll_from state_after
  from_last d [] xs b l = absurd (not-suc-le-zero l)
  from_last d (e ∷ es) [] b l = absurd (not-suc-le-zero b)
  from_last d (e ∷ es) (x ∷ xs) b l =
      either (λ (r : After). suc r.count < length (e ∷ es) → EndsRefused d (e ∷ es) (suc r.count))
      (is_refused (step d e)) _ _
      (λ t l. (0, refl, eqb-false (step d e).number 0 (not-true (eqb (step d e).number 0) t)))
      (λ _ l. one_later d e es _ (from_last (step d e).state es xs (le_of_suc-le-suc b) (le_of_suc-le-suc l))) l

-- ---- the call
module _ (d : Device) (es : List EventRecord) (xs : List Seen) where
  abbrev k : ℕ
  k = (polled_of d es xs).count

  abbrev accepted : Bool
  accepted = eqb (poll_refusal d (length es) (length xs)) 0

  pub one_by_one : (polled_of d es xs).state ≡ state_after single_of d (take k es)
  unfolding polled_of after_poll state_after
  one_by_one =
      pick_all (λ (r : After). r.state ≡ state_after single_of d (take r.count es)) accepted _ _
      (from-one-by-one single_of d es xs) refl

  pub written : take k (answers_after d es xs) ≡ map seen_in (answers_to single_of d (take k es))
  unfolding polled_of after_poll answers_to
  written =
      pick_all
      (λ (r : After). take r.count r.answers ≡ map seen_in (answers_to single_of d (take r.count es)))
      accepted _ _ (from-written single_of d es xs) refl

  pub later-stay : drop k (answers_after d es xs) ≡ drop k xs
  unfolding polled_of after_poll
  later-stay =
      pick_all (λ (r : After). drop r.count r.answers ≡ drop r.count xs) accepted _ _
      (from-later-stay single_of d es xs) refl

  pub as_many : length (answers_after d es xs) ≡ length xs
  unfolding after_poll
  as_many =
      pick_all (λ (r : After). length r.answers ≡ length xs) accepted _ _ (from-as-many single_of d es xs) refl

  pub at_most : (k ≤ length es) × (k ≤ length xs)
  unfolding polled_of after_poll
  at_most =
      pick_all (λ (r : After). (r.count ≤ length es) × (r.count ≤ length xs)) accepted _ _
      (from-at-most single_of d es xs) (zero-le, zero-le)

  pub accepted-before : (i : ℕ) → suc i < k → (answer_at single_of d es i).number ≡ 0
  unfolding polled_of after_poll
  accepted-before =
      pick_all (λ (r : After). (i : ℕ) → suc i < r.count → (answer_at single_of d es i).number ≡ 0) accepted _ _
      (from-accepted single_of d es xs) (λ i l. absurd (not-suc-le-zero l))

  pub last-refused : (polled_of d es xs).number ≡ 0 → k < length es → EndsRefused single_of d es k
  unfolding polled_of after_poll
  last-refused n =
      subst (λ (r : After). r.count < length es → EndsRefused single_of d es r.count)
      (sym (pick_yes _ _ _ (eq-eqb _ 0 n))) (from_last single_of d es xs (room_given d (length es) (length xs) n))

  pub refused-call : ((polled_of d es xs).number ≡ 0 → ⊥)
      → (k ≡ 0) × ((polled_of d es xs).state ≡ d) × (answers_after d es xs ≡ xs)
  unfolding polled_of after_poll
  refused-call n =
      subst (λ (r : After). (r.count ≡ 0) × (r.state ≡ d) × (r.answers ≡ xs))
      (sym (pick_no _ _ _ (ne_eqb _ 0 n))) (refl, refl, refl)
