-- Where the oldest of those held stands in a ledger, and what each rule of the ledger does to that: a read moves it on, an arrival becomes it where
-- none was held, and all else leaves it or leaves none. Assumes nothing.
use Prim.Native.Nat.{ℕ, suc, ◌≤◌}
use mathlib.Core.Path.{◌≡◌, refl, sym, ◌∙◌}
use mathlib.Core.Bool.{Bool, true, false, not, ◌&&◌, true≢false}
use mathlib.Core.List.{List, [], ◌∷◌, ◌++◌, map}
use native.Mathlib.Omega.{arith}
use lib.Dec.{eqb}
use borrow.Author.Tests.{eqb-true, eq-eqb, ne_eqb}
use Rattle.format.specs.Pick.{pick}
use Rattle.format.proofs.Laws.Pick.{pick_yes, pick_no, pick_all}
use Rattle.character.specs.declared.character.Character.{Character}
use Rattle.character.specs.declared.character.Marks.{Marks}
use Rattle.character.specs.Character.{no_marks}
use Rattle.receiver.specs.Delivery.{Fate, Entry, meets, drop_all, starts, live, known, oldest_known, fated_by}
use Rattle.receiver.specs.Delivery.Entry.{entry}
use Rattle.receiver.specs.Delivery.Fate.{Held, WasRead, Overrun, Dropped}
use Rattle.demands.specs.Received.{oldest_at, became}

-- an arrival, entered last
abbrev pub entered_in : List Entry → Character → List Entry
entered_in l c = l ++ (entry c false Held ∷ [])

-- ---- none is held ----

abbrev is_held : Fate → Bool
is_held Held = true
is_held WasRead = false
is_held Overrun = false
is_held Dropped = false

abbrev none_held : List (Character × Fate) → Bool
none_held [] = true
none_held (x ∷ l) = not (is_held x.1) && none_held l

-- places are counted from 1
not_none : (n : ℕ) → eqb (suc n) 0 ≡ false
not_none n = ne_eqb (suc n) 0 (omega arith)

none_known : (n : ℕ) (l : List Entry) → none_held (map known (live l)) ≡ eqb (oldest_at n l) 0
none_known n [] = refl
none_known n (entry c k Held ∷ l) = sym (not_none n)
none_known n (entry c k WasRead ∷ l) = none_known (suc n) l
none_known n (entry c k Overrun ∷ l) = none_known (suc n) l
none_known n (entry c k Dropped ∷ l) = none_known (suc n) l

abbrev pub is_nil : List Character → Bool
is_nil [] = true
is_nil (c ∷ h) = false

none_fated : (r h : List Character) → none_held (fated_by WasRead r ++ fated_by Held h) ≡ is_nil h
none_fated [] [] = refl
none_fated [] (c ∷ h) = refl
none_fated (c ∷ r) h = none_fated r h

-- by what became of the arrivals
pub none_at : (l : List Entry) (r h : List Character) → map known (live l) ≡ fated_by WasRead r ++ fated_by Held h → eqb (oldest_at 0 l) 0 ≡ is_nil h
none_at l r h e = sym (none_known 0 l) ∙ rw e (none_fated r h)

-- ---- the rules ----

started_at : (n k : ℕ) (f : Fate) (l : List Entry) → oldest_at n (meets (suc k) f l) ≡ oldest_at n l
started_at n k f [] = refl
started_at n k f (entry c x Held ∷ l) = refl
started_at n k f (entry c x WasRead ∷ l) = started_at (suc n) k f l
started_at n k f (entry c x Overrun ∷ l) = started_at (suc n) k f l
started_at n k f (entry c x Dropped ∷ l) = started_at (suc n) k f l

-- a confirmed start leaves the oldest
starts_at : (t : Bool) (l : List Entry) → oldest_at 0 (starts t l) ≡ oldest_at 0 l
starts_at true l = started_at 0 2 Overrun l
starts_at false l = refl

entered_some : (n : ℕ) (l : List Entry) (c : Character) → eqb (oldest_at n l) 0 ≡ false → oldest_at n (entered_in l c) ≡ oldest_at n l
entered_some n [] c h = absurd (true≢false h)
entered_some n (entry x k Held ∷ l) c h = refl
entered_some n (entry x k WasRead ∷ l) c h = entered_some (suc n) l c h
entered_some n (entry x k Overrun ∷ l) c h = entered_some (suc n) l c h
entered_some n (entry x k Dropped ∷ l) c h = entered_some (suc n) l c h

entered_none : (n : ℕ) (l : List Entry) (c : Character) → eqb (oldest_at n l) 0 ≡ true
    → (eqb 0 (oldest_at n (entered_in l c)) ≡ false) × (oldest_known (entered_in l c) ≡ c.marks)
entered_none n [] c h = (ne_eqb 0 (suc n) (omega arith), refl)
entered_none n (entry x k Held ∷ l) c h = absurd (true≢false (sym h ∙ not_none n))
entered_none n (entry x k WasRead ∷ l) c h = entered_none (suc n) l c h
entered_none n (entry x k Overrun ∷ l) c h = entered_none (suc n) l c h
entered_none n (entry x k Dropped ∷ l) c h = entered_none (suc n) l c h

dropped_marks : (l : List Entry) → oldest_known (drop_all l) ≡ no_marks
dropped_marks [] = refl
dropped_marks (entry c k Held ∷ l) = dropped_marks l
dropped_marks (entry c k WasRead ∷ l) = dropped_marks l
dropped_marks (entry c k Overrun ∷ l) = dropped_marks l
dropped_marks (entry c k Dropped ∷ l) = dropped_marks l

-- none stands before the place where the count begins
beyond : (n k : ℕ) (l : List Entry) → suc k ≤ n → oldest_at n l ≡ suc k → ⊥
beyond n k [] h e = omega arith
beyond n k (entry c x Held ∷ l) h e = omega arith
beyond n k (entry c x WasRead ∷ l) h e = beyond (suc n) k l (omega arith) e
beyond n k (entry c x Overrun ∷ l) h e = beyond (suc n) k l (omega arith) e
beyond n k (entry c x Dropped ∷ l) h e = beyond (suc n) k l (omega arith) e

read_some : (n : ℕ) (l : List Entry) → eqb (oldest_at n l) 0 ≡ false → eqb (oldest_at n l) (oldest_at n (meets 0 WasRead l)) ≡ false
read_some n [] h = absurd (true≢false h)
read_some n (entry c k Held ∷ l) h = ne_eqb (suc n) (oldest_at (suc n) l) (λ e. beyond (suc n) n l (omega arith) (sym e))
read_some n (entry c k WasRead ∷ l) h = read_some (suc n) l h
read_some n (entry c k Overrun ∷ l) h = read_some (suc n) l h
read_some n (entry c k Dropped ∷ l) h = read_some (suc n) l h

read_none : (n : ℕ) (l : List Entry) → eqb (oldest_at n l) 0 ≡ true → oldest_at n (meets 0 WasRead l) ≡ oldest_at n l
read_none n [] h = refl
read_none n (entry c k Held ∷ l) h = absurd (true≢false (sym h ∙ not_none n))
read_none n (entry c k WasRead ∷ l) h = read_none (suc n) l h
read_none n (entry c k Overrun ∷ l) h = read_none (suc n) l h
read_none n (entry c k Dropped ∷ l) h = read_none (suc n) l h

-- ---- the marks of one that became oldest ----

pub became_same : (l m : List Entry) → oldest_at 0 m ≡ oldest_at 0 l → became l m ≡ no_marks
became_same l m h = pick_yes _ no_marks (oldest_known m) (eq-eqb (oldest_at 0 l) (oldest_at 0 m) (sym h))

pub became_dropped : (l : List Entry) → became l (drop_all l) ≡ no_marks
became_dropped l = pick_all (λ (x : Marks). x ≡ no_marks) _ _ _ refl (dropped_marks l)

pub became_started : (t : Bool) (l : List Entry) → became l (starts t l) ≡ no_marks
became_started t l = became_same l (starts t l) (starts_at t l)

-- an arrival, by whether none was held
pub became_entered : (t : Bool) (l : List Entry) (c : Character)
    → became l (entered_in (starts t l) c) ≡ pick (eqb (oldest_at 0 l) 0) c.marks no_marks
unfolding pick
became_entered t l c = go (eqb (oldest_at 0 l) 0) refl
  where
    go : (b : Bool) → eqb (oldest_at 0 l) 0 ≡ b → became l (entered_in (starts t l) c) ≡ pick b c.marks no_marks
    go true e =
        let both = entered_none 0 (starts t l) c (rw (starts_at t l) e) in
        let none : oldest_at 0 l ≡ 0 = eqb-true (oldest_at 0 l) 0 e in
        rw (none, both.0, both.1)
    go false e = became_same l (entered_in (starts t l) c) (entered_some 0 (starts t l) c (rw (starts_at t l) e) ∙ starts_at t l)

-- a read, by whether none was held
pub became_read : (l : List Entry) → became l (meets 0 WasRead l) ≡ pick (eqb (oldest_at 0 l) 0) no_marks (oldest_known (meets 0 WasRead l))
unfolding pick
became_read l = go (eqb (oldest_at 0 l) 0) refl
  where
    go : (b : Bool) → eqb (oldest_at 0 l) 0 ≡ b → became l (meets 0 WasRead l) ≡ pick b no_marks (oldest_known (meets 0 WasRead l))
    go true e = became_same l (meets 0 WasRead l) (read_none 0 l e)
    go false e = pick_no _ no_marks (oldest_known (meets 0 WasRead l)) (read_some 0 l e)
