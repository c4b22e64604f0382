-- What a ledger tells: that some were read, and that some are held after them. Each of its rules does to the two lists what the queue's
-- rule of the same feed does, by induction on the telling. Assumes nothing.
use Prim.Native.Nat.{ℕ, zero, suc, ◌+◌, ◌-◌, ◌≤◌, ◌<◌}
use mathlib.Core.Path.{◌≡◌, refl}
use mathlib.Core.Bool.{Bool, true, false}
use mathlib.Core.List.{List, [], ◌∷◌, ◌++◌, map}
use native.Mathlib.Omega.{arith}
use lib.Dec.{leb, ltb}
use lib.ListN.{length, take}
use borrow.Author.Tests.{lt-ltb, le-ltb, leb-true, leb-false}
use Rattle.character.specs.declared.character.Character.{Character}
use Rattle.queue.specs.Queue.{put, waits, took, top_marks, top_unmarked}
use Rattle.receiver.specs.Delivery.{Fate, Entry, meets, drop_all, clears, overruns, live, as_arrived, less_cleared, known, oldest_known, fated_by}
use Rattle.receiver.specs.Delivery.Entry.{entry}
use Rattle.receiver.specs.Delivery.Fate.{Held, WasRead, Overrun, Dropped}

-- The entries tell that `r` were read and that then `h` are held: those lost are passed over.
pub data Tells : List Entry → List Character → List Character → Type 0 where
  nothing : Tells [] [] []
  overrun : {c : Character} {k : Bool} {l : List Entry} {r h : List Character} → Tells l r h → Tells (entry c k Overrun ∷ l) r h
  dropped : {c : Character} {k : Bool} {l : List Entry} {r h : List Character} → Tells l r h → Tells (entry c k Dropped ∷ l) r h
  read : {c : Character} {k : Bool} {l : List Entry} {r h : List Character} → Tells l r h → Tells (entry c k WasRead ∷ l) (less_cleared k c ∷ r) h
  held : {c : Character} {k : Bool} {l : List Entry} {h : List Character} → Tells l [] h → Tells (entry c k Held ∷ l) [] (less_cleared k c ∷ h)

-- ---- what follows of a telling ----

pub tells_fates : {l : List Entry} {r h : List Character} → Tells l r h → map known (live l) ≡ fated_by WasRead r ++ fated_by Held h
tells_fates nothing = refl
tells_fates (overrun t) = tells_fates t
tells_fates (dropped t) = tells_fates t
tells_fates (read t) = rw (tells_fates t)
tells_fates (held t) = rw (tells_fates t)

pub tells_marks : {l : List Entry} {r h : List Character} → Tells l r h → oldest_known l ≡ top_marks h
tells_marks nothing = refl
tells_marks (overrun t) = tells_marks t
tells_marks (dropped t) = tells_marks t
tells_marks (read t) = tells_marks t
tells_marks (held t) = refl

-- ---- the rules ----

pub tells_entered : {l : List Entry} {r h : List Character} (c : Character) → Tells l r h → Tells (l ++ (entry c false Held ∷ [])) r (put h c)
tells_entered c nothing = held nothing
tells_entered c (overrun t) = overrun (tells_entered c t)
tells_entered c (dropped t) = dropped (tells_entered c t)
tells_entered c (read t) = read (tells_entered c t)
tells_entered c (held t) = held (tells_entered c t)

pub tells_read : {l : List Entry} {r h : List Character} → Tells l r h → Tells (meets 0 WasRead l) (r ++ take 1 h) (took h)
tells_read nothing = nothing
tells_read (overrun t) = overrun (tells_read t)
tells_read (dropped t) = dropped (tells_read t)
tells_read (read t) = read (tells_read t)
tells_read (held t) = read t

pub tells_dropped : {l : List Entry} {r h : List Character} → Tells l r h → Tells (drop_all l) r []
tells_dropped nothing = nothing
tells_dropped (overrun t) = overrun (tells_dropped t)
tells_dropped (dropped t) = dropped (tells_dropped t)
tells_dropped (read t) = read (tells_dropped t)
tells_dropped (held t) = dropped (tells_dropped t)

pub tells_cleared : {l : List Entry} {r h : List Character} → Tells l r h → Tells (clears l) r (top_unmarked h)
tells_cleared nothing = nothing
tells_cleared (overrun t) = overrun (tells_cleared t)
tells_cleared (dropped t) = dropped (tells_cleared t)
tells_cleared (read t) = read (tells_cleared t)
tells_cleared (held {k = true} t) = held t
tells_cleared (held {k = false} t) = held t

-- at most one is held beyond the first `n`, and that one goes
pub tells_overrun : {l : List Entry} {r h : List Character} (n : ℕ) → length h ≤ suc n → Tells l r h → Tells (meets n Overrun l) r (take n h)
tells_overrun zero p nothing = nothing
tells_overrun (suc n) p nothing = nothing
tells_overrun n p (overrun t) = overrun (tells_overrun n p t)
tells_overrun n p (dropped t) = dropped (tells_overrun n p t)
tells_overrun n p (read t) = read (tells_overrun n p t)
tells_overrun zero p (held {h = []} t) = overrun t
tells_overrun zero p (held {h = x ∷ h} t) = absurd (omega arith)
tells_overrun (suc n) p (held t) = held (tells_overrun n (omega arith) t)

-- ---- the number of overruns ----

overruns_meets : {l : List Entry} {r h : List Character} (n : ℕ) → length h ≤ suc n → Tells l r h
    → overruns (meets n Overrun l) ≡ overruns l + (length h - n)
overruns_meets n p nothing = omega arith
overruns_meets n p (overrun t) = omega (arith, overruns_meets n p t)
overruns_meets n p (dropped t) = overruns_meets n p t
overruns_meets n p (read t) = overruns_meets n p t
overruns_meets zero p (held t) = omega arith
overruns_meets (suc n) p (held t) = omega (arith, overruns_meets n (omega arith) t)

grows : (a b n : ℕ) → b ≡ a + (n - 3) → ltb a b ≡ leb 4 n
grows a b n e = go (leb 4 n) refl
  where
    go : (t : Bool) → leb 4 n ≡ t → ltb a b ≡ t
    go true f =
        let four : 4 ≤ n = leb-true 4 n f in
        lt-ltb a b (omega arith)
    go false f =
        let less : n < 4 = leb-false 4 n f in
        le-ltb a b (omega arith)

-- it goes up exactly where one waits
pub overruns_grow : {l : List Entry} {r h : List Character} → length h ≤ 4 → Tells l r h
    → ltb (overruns l) (overruns (meets 3 Overrun l)) ≡ waits h
overruns_grow p t = grows _ _ _ (overruns_meets 3 p t)

pub overruns_entered : (l : List Entry) (c : Character) → overruns (l ++ (entry c false Held ∷ [])) ≡ overruns l
overruns_entered [] c = refl
overruns_entered (entry x k Held ∷ l) c = overruns_entered l c
overruns_entered (entry x k WasRead ∷ l) c = overruns_entered l c
overruns_entered (entry x k Overrun ∷ l) c = rw (overruns_entered l c)
overruns_entered (entry x k Dropped ∷ l) c = overruns_entered l c

-- ---- the characters as they arrived ----

pub arrived_meets : (n : ℕ) (f : Fate) (l : List Entry) → map as_arrived (meets n f l) ≡ map as_arrived l
arrived_meets n f [] = refl
arrived_meets zero f (entry c k Held ∷ l) = refl
arrived_meets (suc n) f (entry c k Held ∷ l) = rw (arrived_meets n f l)
arrived_meets n f (entry c k WasRead ∷ l) = rw (arrived_meets n f l)
arrived_meets n f (entry c k Overrun ∷ l) = rw (arrived_meets n f l)
arrived_meets n f (entry c k Dropped ∷ l) = rw (arrived_meets n f l)

pub arrived_dropped : (l : List Entry) → map as_arrived (drop_all l) ≡ map as_arrived l
arrived_dropped [] = refl
arrived_dropped (entry c k Held ∷ l) = rw (arrived_dropped l)
arrived_dropped (entry c k WasRead ∷ l) = rw (arrived_dropped l)
arrived_dropped (entry c k Overrun ∷ l) = rw (arrived_dropped l)
arrived_dropped (entry c k Dropped ∷ l) = rw (arrived_dropped l)

pub arrived_cleared : (l : List Entry) → map as_arrived (clears l) ≡ map as_arrived l
arrived_cleared [] = refl
arrived_cleared (entry c k Held ∷ l) = refl
arrived_cleared (entry c k WasRead ∷ l) = rw (arrived_cleared l)
arrived_cleared (entry c k Overrun ∷ l) = rw (arrived_cleared l)
arrived_cleared (entry c k Dropped ∷ l) = rw (arrived_cleared l)
