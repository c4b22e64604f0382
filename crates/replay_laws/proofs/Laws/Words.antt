-- What is read of a line is a summary of its words: a byte more takes the summary of the words so far to that of the words with the byte.
-- Assumes nothing.
use Prim.{tt}
use Prim.Native.Nat.{ℕ}
use mathlib.Core.Path.{◌≡◌, refl, ap, ◌∙◌}
use mathlib.Core.Bool.{Bool, true, false}
use mathlib.Core.List.{List, [], ◌∷◌, ◌++◌, append-nil, append_assoc}
use lib.Seq.{append_snoc}
use Rattle.std.specs.Prelude.{Option, Some}
use Rattle.format.specs.Pick.{pick}
use Rattle.format.proofs.Laws.Pick.{pick_yes, pick_no}
use Rattle.replay_script.specs.declared.reading.Reading.{Reading}
use Rattle.replay_script.specs.Bytes.{blank_of}
use Rattle.replay_script.specs.Script.{before, pieces_of, kept, full_of, hash_of}
use Rattle.replay_script.specs.Reading.{started, comment_after, words_after, begun_of, added_of, taken_of, taken_all}
use Rattle.replay_script.specs.Lines.{told_of}
use Rattle.replay_script.specs.Agrees.{AreBytes}
use Rattle.replay_laws.proofs.Laws.Names.{name_from, name_snoc}
use Rattle.text.specs.Numbers.{number_from}
use Rattle.replay_laws.proofs.Laws.Numbers.{number_snoc}

-- the summary of these words
unfoldable pub comment_of : List (List ℕ) → Bool
comment_of [] = false
comment_of (a ∷ ws) = hash_of a

unfoldable pub count_of : List (List ℕ) → ℕ
count_of [] = 0
count_of (a ∷ []) = 1
count_of (a ∷ b ∷ []) = 2
count_of (a ∷ b ∷ c ∷ []) = 3
count_of (a ∷ b ∷ c ∷ d ∷ ws) = 4

unfoldable pub name_of : List (List ℕ) → ℕ
name_of [] = 1
name_of (a ∷ ws) = name_from 1 a

unfoldable pub first_of : List (List ℕ) → Option ℕ
first_of [] = Some 0
first_of (a ∷ []) = Some 0
first_of (a ∷ b ∷ ws) = number_from (Some 0) b

unfoldable pub second_of : List (List ℕ) → Option ℕ
second_of [] = Some 0
second_of (a ∷ []) = Some 0
second_of (a ∷ b ∷ []) = Some 0
second_of (a ∷ b ∷ c ∷ ws) = number_from (Some 0) c

abbrev pub summary_of : Bool → List (List ℕ) → Reading
summary_of inside ws =
    record { inside = inside; comment = comment_of ws; words = count_of ws; name = name_of ws; first = first_of ws; second = second_of ws }

-- a piece that is not empty is a word under way
abbrev pub under_way : List ℕ → Bool
under_way [] = false
under_way (b ∷ w) = true

-- the words `ws` are complete, and `w` is the piece so far
abbrev pub seen_of : List (List ℕ) → List ℕ → Reading
seen_of ws w = summary_of (under_way w) (ws ++ kept w)

-- a blank ends the piece
pub blank_taken : (ws : List (List ℕ)) (w : List ℕ) (b : ℕ) → blank_of b ≡ true → taken_of (seen_of ws w) b ≡ seen_of (ws ++ kept w) []
unfolding taken_of
blank_taken ws w b e = pick_yes (blank_of b) _ _ e ∙ rw (append-nil (ws ++ kept w))

-- another byte lengthens it, or begins it
abbrev Added : List (List ℕ) → List ℕ → ℕ → Type 0
Added ws w b = pick (under_way w) (added_of (seen_of ws w) b) (added_of (begun_of (seen_of ws w) b) b) ≡ seen_of ws (w ++ b ∷ [])

begun : (ws : List (List ℕ)) (b : ℕ) → Added ws [] b
unfolding added_of begun_of comment_after words_after pick comment_of count_of name_of first_of second_of name_from number_from hash_of
begun [] b = refl
begun (x ∷ []) b = refl
begun (x ∷ y ∷ []) b = refl
begun (x ∷ y ∷ z ∷ []) b = refl
begun (x ∷ y ∷ z ∷ u ∷ ws) b = refl

lengthened : (ws : List (List ℕ)) (c : ℕ) (w : List ℕ) (b : ℕ) → Added ws (c ∷ w) b
unfolding added_of begun_of comment_after words_after pick comment_of count_of name_of first_of second_of hash_of
lengthened [] c w b = rw (name_snoc 1 (c ∷ w) b)
lengthened (x ∷ []) c w b = rw (number_snoc (Some 0) (c ∷ w) b)
lengthened (x ∷ y ∷ []) c w b = rw (number_snoc (Some 0) (c ∷ w) b)
lengthened (x ∷ y ∷ z ∷ []) c w b = refl
lengthened (x ∷ y ∷ z ∷ u ∷ ws) c w b = refl

added : (ws : List (List ℕ)) (w : List ℕ) (b : ℕ) → Added ws w b
added ws [] b = begun ws b
added ws (c ∷ w) b = lengthened ws c w b

pub other_taken : (ws : List (List ℕ)) (w : List ℕ) (b : ℕ) → blank_of b ≡ false → taken_of (seen_of ws w) b ≡ seen_of ws (w ++ b ∷ [])
unfolding taken_of
other_taken ws w b e = pick_no (blank_of b) _ _ e ∙ added ws w b

-- this piece before the first
abbrev onto : List ℕ → List (List ℕ) → List (List ℕ)
onto w [] = w ∷ []
onto w (p ∷ ps) = (w ++ p) ∷ ps

onto_nothing : (ps : List (List ℕ)) → full_of (onto [] ps) ≡ full_of ps
unfolding full_of
onto_nothing [] = refl
onto_nothing (p ∷ ps) = refl

onto_before : (w : List ℕ) (b : ℕ) (ps : List (List ℕ)) → onto (w ++ b ∷ []) ps ≡ onto w (before b ps)
onto_before w b [] = refl
onto_before w b (p ∷ ps) = rw (append_snoc w b p)

abbrev Read : List (List ℕ) → List ℕ → List ℕ → Type 0
Read ws w line = told_of (taken_all (seen_of ws w) line) ≡ told_of (summary_of false (ws ++ full_of (onto w (pieces_of line))))

told_inside : (i : Bool) (ws : List (List ℕ)) → told_of (summary_of i ws) ≡ told_of (summary_of false ws)
unfolding told_of
told_inside i ws = refl

after_blank : (ws : List (List ℕ)) (w : List ℕ) (b : ℕ) (line : List ℕ) → blank_of b ≡ true → Read (ws ++ kept w) [] line → Read ws w (b ∷ line)
unfolding taken_all pieces_of full_of
after_blank ws w b line e rest =
    ap (λ (r : Reading). told_of (taken_all r line)) (blank_taken ws w b e)
    ∙ rest
    ∙ rw (onto_nothing (pieces_of line), pick_yes (blank_of b) ([] ∷ pieces_of line) (before b (pieces_of line)) e, append-nil w)
    (ap (λ (l : List (List ℕ)). told_of (summary_of false l)) (append_assoc ws (kept w) (full_of (pieces_of line))))

after_other : (ws : List (List ℕ)) (w : List ℕ) (b : ℕ) (line : List ℕ) → blank_of b ≡ false → Read ws (w ++ b ∷ []) line → Read ws w (b ∷ line)
unfolding taken_all pieces_of
after_other ws w b line e rest =
    ap (λ (r : Reading). told_of (taken_all r line)) (other_taken ws w b e)
    ∙ rest
    ∙ rw (onto_before w b (pieces_of line), pick_no (blank_of b) ([] ∷ pieces_of line) (before b (pieces_of line)) e)

read_from_lem : (ws : List (List ℕ)) (w line : List ℕ) → Read ws w line
unfolding taken_all pieces_of full_of
read_from_lem ws w [] = rw (append-nil w, append-nil (kept w)) (told_inside (under_way w) (ws ++ kept w))
read_from_lem ws w (b ∷ line) = go (λ v vs. read_from_lem vs v line) (blank_of b) refl
  where
    go : ((v : List ℕ) (vs : List (List ℕ)) → Read vs v line) → (t : Bool) → blank_of b ≡ t → Read ws w (b ∷ line)
    go rest true e = after_blank ws w b line e (rest [] (ws ++ kept w))
    go rest false e = after_other ws w b line e (rest (w ++ b ∷ []) ws)

-- a line that is read from the start
pub read_words : (line : List ℕ) → told_of (taken_all started line) ≡ told_of (summary_of false (full_of (pieces_of line)))
unfolding comment_of count_of name_of first_of second_of
read_words line = read_from_lem [] [] line ∙ rw (onto_nothing (pieces_of line))

-- the words of bytes are bytes
unfoldable pub AllBytes : List (List ℕ) → Type 0
AllBytes [] = Unit {0}
AllBytes (w ∷ ws) = AreBytes w × AllBytes ws

pieces_bytes : (line : List ℕ) → AreBytes line → AllBytes (pieces_of line)
unfolding pieces_of AllBytes AreBytes pick
pieces_bytes [] h = (tt, tt)
pieces_bytes (b ∷ line) h = go (pieces_bytes line h.1) (blank_of b)
  where
    onto-first : (ps : List (List ℕ)) → AllBytes ps → AllBytes (before b ps)
    onto-first [] k = ((h.0, tt), tt)
    onto-first (p ∷ ps) k = ((h.0, k.0), k.1)

    go : AllBytes (pieces_of line) → (t : Bool) → AllBytes (pick t ([] ∷ pieces_of line) (before b (pieces_of line)))
    go k true = (tt, k)
    go k false = onto-first (pieces_of line) k

full_bytes : (ps : List (List ℕ)) → AllBytes ps → AllBytes (full_of ps)
unfolding full_of AllBytes
full_bytes [] h = tt
full_bytes ([] ∷ ps) h = full_bytes ps h.1
full_bytes ((b ∷ p) ∷ ps) h = (h.0, full_bytes ps h.1)

pub words_bytes : (line : List ℕ) → AreBytes line → AllBytes (full_of (pieces_of line))
words_bytes line h = full_bytes (pieces_of line) (pieces_bytes line h)
