-- Text after text on a page: what is put after what was put is put with it. Assumes nothing.
use Prim.Native.Nat.{ℕ, ◌≤◌}
use mathlib.Core.Path.{◌≡◌, refl, ◌∙◌}
use mathlib.Core.List.{List, [], ◌++◌}
use lib.ListN.{length, take}
use Rattle.text.specs.declared.putting.Page.{Page}
use Rattle.text.specs.Puts.{Puts, Writes}
use Rattle.text.proofs.Laws.Puts.{puts_none, puts_then, puts_front, puts_as, Left, left_all, left_as, left_then, left_last, left_none}

pub writes_none : (p : Page) → Writes [] p p
writes_none p = record { same = refl; puts = puts_none p.at p.space.now }

pub writes_then : {x y : List ℕ} {p q r : Page} → Writes x p q → Writes y q r → Writes (x ++ y) p r
writes_then {x} {y} {p} {q} {r} a b = record { same = b.same ∙ a.same; puts = puts_then a.puts b.puts }

-- as another name of the same text
pub writes_as : {x y : List ℕ} {p q : Page} → x ≡ y → Writes x p q → Writes y p q
writes_as {x} {y} {p} {q} e w = record { same = w.same; puts = puts_as e w.puts }

-- ---- text that is put piece by piece: what is left leads to the page that is asked ----

pub record Remains (whole : List ℕ) (first : Page) (rest : List ℕ) (now : Page) : Type 0 where
  pub same : now.space.ghost_name ≡ first.space.ghost_name
  pub left : Left first.at whole first.space.now now.at rest now.space.now

pub remains_all : (whole : List ℕ) (p : Page) → Remains whole p whole p
remains_all whole p = record { same = refl; left = left_all p.at whole p.space.now }

pub remains_as : {whole x y : List ℕ} {p q : Page} → x ≡ y → Remains whole p x q → Remains whole p y q
remains_as {whole} {x} {y} {p} {q} e h = record { same = h.same; left = left_as e h.left }

-- one piece more
pub remains_then : {whole x y : List ℕ} {p q r : Page} → Remains whole p (x ++ y) q → Writes x q r → Remains whole p y r
remains_then {whole} {x} {y} {p} {q} {r} h w = record { same = w.same ∙ h.same; left = left_then h.left w.puts }

-- the last piece
pub remains_last : {whole x : List ℕ} {p q r : Page} → Remains whole p x q → Writes x q r → Writes whole p r
remains_last {whole} {x} {p} {q} {r} h w = record { same = w.same ∙ h.same; puts = left_last h.left w.puts }

pub remains_none : {whole : List ℕ} {p q : Page} → Remains whole p [] q → Writes whole p q
remains_none {whole} {p} {q} h = record { same = h.same; puts = left_none h.left }

-- ---- what stands in the space, once its page is let go ----

pub puts_there : {at end : ℕ} {x s t u : List ℕ} → Puts at x s t end → u ≡ t → Puts at x s u end
puts_there {at} {end} {x} {s} {t} {u} p e = record { ends = p.ends; space = e ∙ p.space }

pub front_holds : {end : ℕ} {x s t u : List ℕ} → Puts 0 x s t end → end ≤ length s → u ≡ t → (end ≤ length u) × (end ≡ length (take end u))
front_holds {end} {x} {s} {t} {u} p h e = (puts_front (puts_there p e) h).0

pub front_text : {end : ℕ} {x s t u : List ℕ} → Puts 0 x s t end → end ≤ length s → u ≡ t → take end u ≡ x
front_text {end} {x} {s} {t} {u} p h e = (puts_front (puts_there p e) h).1
