-- What is known of a line, byte by byte. Assumes nothing.
use Rattle.std.specs.Prelude.{ℕ, ◌+◌, ◌*◌, Bool, true, false, List, [], ◌∷◌, Option, Some, eqb, ltb}
use Rattle.format.specs.Pick.{pick}
use Rattle.replay_script.specs.declared.reading.Reading.{Reading}
use Rattle.text.specs.Numbers.{number_after}
use Rattle.replay_script.specs.Bytes.{blank_of}

abbrev pub started : Reading
started = record { inside = false; comment = false; words = 0; name = 1; first = Some 0; second = Some 0 }

-- The first word is a number in base 256, after a 1: no two words of at most five bytes have the same. From the sixth
-- byte on it is 2 ^ 48.
unfoldable pub name_after : ℕ → ℕ → ℕ
name_after name b = pick (ltb name 0x100_0000_0000) (name * 256 + b) 0x1_0000_0000_0000

-- 35 is #
unfoldable pub comment_after : Reading → ℕ → Bool
comment_after r b = pick (eqb r.words 0) (eqb b 35) r.comment

unfoldable pub words_after : ℕ → ℕ
words_after n = pick (ltb n 4) (n + 1) n

-- a word begins with this byte
unfoldable pub begun_of : Reading → ℕ → Reading
begun_of r b =
    record {
      inside = true;
      comment = comment_after r b;
      words = words_after r.words;
      name = r.name;
      first = r.first;
      second = r.second;
    }

abbrev pub with_name : ℕ → Reading → Reading
with_name n r =
    record {
      inside = r.inside;
      comment = r.comment;
      words = r.words;
      name = n;
      first = r.first;
      second = r.second;
    }

abbrev pub with_first : Option ℕ → Reading → Reading
with_first n r =
    record { inside = r.inside; comment = r.comment; words = r.words; name = r.name; first = n; second = r.second }

abbrev pub with_second : Option ℕ → Reading → Reading
with_second n r =
    record { inside = r.inside; comment = r.comment; words = r.words; name = r.name; first = r.first; second = n }

abbrev pub outside : Reading → Reading
outside r =
    record {
      inside = false;
      comment = r.comment;
      words = r.words;
      name = r.name;
      first = r.first;
      second = r.second;
    }

-- the word that began last has one byte more
unfoldable pub added_of : Reading → ℕ → Reading
added_of r b =
    pick (eqb r.words 1) (with_name (name_after r.name b) r)
    (pick (eqb r.words 2) (with_first (number_after r.first b) r)
    (pick (eqb r.words 3) (with_second (number_after r.second b) r) r))

unfoldable pub taken_of : Reading → ℕ → Reading
taken_of r b = pick (blank_of b) (outside r) (pick r.inside (added_of r b) (added_of (begun_of r b) b))

-- all bytes of a line, one after the other
unfoldable pub taken_all : Reading → List ℕ → Reading
taken_all r [] = r
taken_all r (b ∷ bs) = taken_all (taken_of r b) bs
