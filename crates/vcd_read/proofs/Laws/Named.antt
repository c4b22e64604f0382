-- The wires by their codes and names: one more, and none. Names are compared as `==` has it. Assumes nothing.
use Prim.Native.Nat.{ℕ}
use mathlib.Core.Path.{◌≡◌, refl, ap}
use mathlib.Core.Bool.{Bool, true, false, ◌||◌}
use mathlib.Core.List.{List, [], ◌∷◌}
use lib.Dec.{eqb}
use lib.ListN.{length, set}
use Rattle.std.specs.Cmp.Lexicographic.{pointwise}
use Rattle.std.specs.Prelude.{Some, cond}
use Rattle.std.specs.Option.{option_map}
use Rattle.std.specs.List.{list_any, find}
use Rattle.format.specs.Pick.{pick}
use Rattle.vcd_text.specs.Header.{Wire}
use Rattle.std.proofs.lemmas.Iterator.{YieldsList}
use Rattle.std.proofs.lemmas.Iterator.Consumers.{YieldsList-from_shown, count_from_yields_List}
use Rattle.std.specs.Iterator.{Drains}
use Rattle.vcd_read.specs.declared.wires.WireHere.{WireHere}
use Rattle.vcd_read.specs.declared.wires.Wires.{Wires}
use Rattle.vcd_read.specs.Wires.{told, left, GivesWire, same, clash_of, twice_of, code_named, filled}
use Rattle.vcd_read.proofs.Laws.Starts.{same_is}

-- ---- once ----

module _ (all : List Wire) where
  pub twice_none : all ≡ [] → twice_of all ≡ false
  unfolding twice_of
  twice_none e = rw e

  module _ (w : Wire) (ws : List Wire) (e : all ≡ w ∷ ws) where
    pub twice_yes : clash_of w ws ≡ true → twice_of all ≡ true
    unfolding twice_of pick
    twice_yes h = rw (e, h)

    pub twice_no : clash_of w ws ≡ false → twice_of all ≡ twice_of ws
    unfolding twice_of pick
    twice_no h = rw (e, h)

-- ---- the table ----

module _ (all : List Wire) (table : List Bool) where
  pub filled_none : all ≡ [] → filled all table ≡ table
  unfolding filled
  filled_none e = rw e

  pub filled_more : (w : Wire) (ws : List Wire) → all ≡ w ∷ ws → filled all table ≡ filled ws (set table w.code true)
  unfolding filled
  filled_more w ws e = rw e

-- ---- one after the other ----

-- the iterator gives the wires that are left
pub gives_wires : (s : Wires) → YieldsList GivesWire told s (left s)
gives_wires s = YieldsList-from_shown GivesWire told left (λ s t h. ap length h.0) (λ s x t h. h.0) s

pub count_is : (s : Wires) (r : ℕ) → ((xs : List WireHere) × Drains GivesWire s xs × (r ≡ length xs)) → r ≡ length (left s)
count_is s r h = count_from_yields_List s r h (gives_wires s)

-- ---- as the library asks them ----

or_pick : (t r : Bool) → (t || r) ≡ pick t true r
unfolding pick
or_pick true r = refl
or_pick false r = refl

-- `any`
pub clash_any : (w : Wire) (ws : List Wire) → list_any (λ v. eqb v.code w.code || pointwise eqb v.name w.name) ws ≡ clash_of w ws
unfolding clash_of
clash_any w [] = refl
clash_any w (v ∷ vs) = rw (same_is w.name v.name, clash_any w vs) (or_pick (eqb v.code w.code || same w.name v.name) (clash_of w vs))

-- `find`
pub named_find : (name : List ℕ) (ws : List Wire) → option_map (λ v. v.code) (find (λ v. pointwise eqb v.name name) ws) ≡ code_named name ws
unfolding code_named pick
named_find name [] = refl
named_find name (w ∷ ws) = rw (same_is name w.name) (go (same name w.name) (named_find name ws))
  where
    go : (t : Bool) → option_map (λ v. v.code) (find (λ v. pointwise eqb v.name name) ws) ≡ code_named name ws
        → option_map (λ v. v.code) (cond t (Some w) (find (λ v. pointwise eqb v.name name) ws)) ≡ pick t (Some w.code) (code_named name ws)
    go true h = refl
    go false h = h
