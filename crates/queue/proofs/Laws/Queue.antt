-- The layout in places simulates the list: each of its rules does to the list it means what the list's rule of the same name does. There
-- are five counts, and at each of them both sides compute to the same list; a put wants room, so four of them. Assumes nothing.
use Prim.Native.Nat.{ℕ, zero, suc, min, ◌≤◌, ◌<◌}
use mathlib.Core.Path.{◌≡◌, refl, sym, ◌∙◌}
use mathlib.Core.Bool.{Bool, true, false, true≢false}
use mathlib.Core.List.{[], ◌∷◌, cons≢nil}
use mathlib.Core.Logic.{◌↔◌}
use native.Mathlib.Omega.{arith}
use lib.Dec.{eqb, leb}
use lib.ListN.{length}
use borrow.Author.Tests.{eqb-true, leb-true, leb-false}
use Rattle.format.specs.Pick.{pick}
use Rattle.format.proofs.Laws.Pick.{pick_all}
use Rattle.character.specs.declared.character.Character.{Character}
use Rattle.character.specs.Character.{no_marks, unmarked_of}
use Rattle.queue.specs.declared.queue.Queue.{Queue}
use Rattle.queue.specs.Queue.{put, without_waiting, took, replaced, top_marks, top_unmarked, held_of, empty_queue, is_empty_of, oldest_of, put_of, without_waiting_of, took_of, replaced_of}

-- what holds at the numbers up to three, or up to four
to_three : (P : ℕ → Type 0) → P 0 → P 1 → P 2 → P 3 → (n : ℕ) → n ≤ 3 → P n
to_three P a b c d zero h = a
to_three P a b c d (suc zero) h = b
to_three P a b c d (suc (suc zero)) h = c
to_three P a b c d (suc (suc (suc zero))) h = d
to_three P a b c d (suc (suc (suc (suc n)))) h = absurd (omega arith)

to_four : (P : ℕ → Type 0) → P 0 → P 1 → P 2 → P 3 → P 4 → (n : ℕ) → n ≤ 4 → P n
to_four P a b c d e zero h = a
to_four P a b c d e (suc n) h = to_three (λ (k : ℕ). P (suc k)) b c d e n (omega arith)

-- a queue with another count
abbrev counted : Queue → ℕ → Queue
counted q n = record { count = n; first = q.first; second = q.second; third = q.third; waiting = q.waiting }

-- ---- the lists ----

pub held_length : (q : Queue) → q.count ≤ 4 → length (held_of q) ≡ q.count
unfolding held_of
held_length q h = to_four (λ (n : ℕ). length (held_of (counted q n)) ≡ n) refl refl refl refl refl q.count h

pub held_put : (q : Queue) (c : Character) → q.count ≤ 3 → held_of (put_of q c) ≡ put (held_of q) c
unfolding held_of put_of pick
held_put q c h = to_three (λ (n : ℕ). held_of (put_of (counted q n) c) ≡ put (held_of (counted q n)) c) refl refl refl refl q.count h

pub held_without_waiting : (q : Queue) → q.count ≤ 4 → held_of (without_waiting_of q) ≡ without_waiting (held_of q)
unfolding held_of without_waiting_of pick
held_without_waiting q h =
    to_four (λ (n : ℕ). held_of (without_waiting_of (counted q n)) ≡ without_waiting (held_of (counted q n))) refl refl refl refl refl q.count h

pub held_took : (q : Queue) → q.count ≤ 4 → held_of (took_of q) ≡ took (held_of q)
unfolding held_of took_of pick
held_took q h = to_four (λ (n : ℕ). held_of (took_of (counted q n)) ≡ took (held_of (counted q n))) refl refl refl refl refl q.count h

pub held_replaced : (q : Queue) (c : Character) → held_of (replaced_of q c) ≡ replaced (held_of q) c
unfolding held_of
held_replaced q c = go q.count
  where
    go : (n : ℕ) → held_of (replaced_of (counted q n) c) ≡ replaced (held_of (counted q n)) c
    go zero = refl
    go (suc n) = refl

pub held_empty : held_of empty_queue ≡ []
unfolding held_of
held_empty = refl

-- whether at least so many are held: four where one waits, and "FFULL: three in the queue."
pub at_least_held : (q : Queue) (n : ℕ) → q.count ≤ 4 → leb n q.count ≡ leb n (length (held_of q))
at_least_held q n h = rw (held_length q h)

-- ---- the oldest ----

pub oldest_held : (q : Queue) → is_empty_of q ≡ false → held_of q ≡ oldest_of q ∷ took (held_of q)
unfolding held_of
oldest_held q e = go q.count e
  where
    go : (n : ℕ) → is_empty_of (counted q n) ≡ false → held_of (counted q n) ≡ q.first ∷ took (held_of (counted q n))
    go zero e = absurd (true≢false e)
    go (suc n) e = refl

pub is_empty_held : (q : Queue) → (is_empty_of q ≡ true) ↔ (held_of q ≡ [])
unfolding held_of
is_empty_held q = (empty, λ e. go (is_empty_of q) refl e)
  where
    empty : is_empty_of q ≡ true → held_of q ≡ []
    empty e = rw (eqb-true q.count 0 e)

    go : (t : Bool) → is_empty_of q ≡ t → held_of q ≡ [] → t ≡ true
    go true e h = refl
    go false e h = absurd (cons≢nil (sym (oldest_held q e) ∙ h))

-- ---- the oldest ----

pub held_marks : (q : Queue) → pick (is_empty_of q) no_marks (oldest_of q).marks ≡ top_marks (held_of q)
unfolding pick
held_marks q = go (is_empty_of q) refl
  where
    go : (t : Bool) → is_empty_of q ≡ t → pick t no_marks (oldest_of q).marks ≡ top_marks (held_of q)
    go true e = rw ((is_empty_held q).0 e)
    go false e = rw (oldest_held q e)

pub held_unmarked : (q : Queue) → held_of (replaced_of q (unmarked_of (oldest_of q))) ≡ top_unmarked (held_of q)
held_unmarked q = held_replaced q (unmarked_of (oldest_of q)) ∙ go (is_empty_of q) refl
  where
    go : (t : Bool) → is_empty_of q ≡ t → replaced (held_of q) (unmarked_of (oldest_of q)) ≡ top_unmarked (held_of q)
    go true e = rw ((is_empty_held q).0 e)
    go false e = rw (oldest_held q e)

-- ---- the counts ----

pub put_count : (q : Queue) (c : Character) → q.count ≤ 3 → (put_of q c).count ≡ suc q.count
unfolding put_of pick
put_count q c h = to_three (λ (n : ℕ). (put_of (counted q n) c).count ≡ suc n) refl refl refl refl q.count h

pub without_waiting_count : (q : Queue) → (without_waiting_of q).count ≡ min 3 q.count
unfolding without_waiting_of pick
without_waiting_count q = go (leb 4 q.count) refl
  where
    go : (t : Bool) → leb 4 q.count ≡ t → (pick t (counted q 3) q).count ≡ min 3 q.count
    go true e =
        let four : 4 ≤ q.count = leb-true 4 q.count e in
        omega arith
    go false e =
        let less : q.count < 4 = leb-false 4 q.count e in
        omega arith

pub took_count : (q : Queue) (n : ℕ) → q.count ≤ n → (took_of q).count ≤ n
unfolding took_of
took_count q n h = pick_all (λ (k : Queue). k.count ≤ n) (is_empty_of q) _ _ h (omega arith)

-- a put never counts past four, whatever it finds
pub put_four : (q : Queue) (c : Character) → (put_of q c).count ≤ 4
unfolding put_of
put_four q c =
    pick_all (λ (k : Queue). k.count ≤ 4) (eqb q.count 0) _ _ (omega arith)
    (pick_all (λ (k : Queue). k.count ≤ 4) (eqb q.count 1) _ _ (omega arith)
    (pick_all (λ (k : Queue). k.count ≤ 4) (eqb q.count 2) _ _ (omega arith) (omega arith)))
