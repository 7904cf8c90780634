-- The lines that are said, as bytes. Definitions only.
use Rattle.std.specs.Prelude.{List, [], ◌++◌, ◌∷◌, ℕ, ℤ, take}
use Rattle.still_lines.specs.Decimal.{decimal_of, integer_of}
use Rattle.still_lines.specs.declared.text.Text.{Text}

-- what a text says
abbrev pub said : Text → List ℕ
said t = take t.len t.bytes

-- ---- words

-- ` `
unfoldable pub space : List ℕ
space = 32 ∷ []

-- `)\n`
unfoldable pub closing : List ℕ
closing = 41 ∷ 10 ∷ []

-- `))\n`
unfoldable pub closing_two : List ℕ
closing_two = 41 ∷ 41 ∷ 10 ∷ []

-- `(picture `
unfoldable pub word_picture : List ℕ
word_picture = 40 ∷ 112 ∷ 105 ∷ 99 ∷ 116 ∷ 117 ∷ 114 ∷ 101 ∷ 32 ∷ []

-- `(picture refused `
unfoldable pub word_picture_refused : List ℕ
word_picture_refused = 40 ∷ 112 ∷ 105 ∷ 99 ∷ 116 ∷ 117 ∷ 114 ∷ 101 ∷ 32 ∷ 114 ∷ 101 ∷ 102 ∷ 117 ∷ 115 ∷ 101 ∷ 100 ∷ 32 ∷ []

-- `(end `
unfoldable pub word_end : List ℕ
word_end = 40 ∷ 101 ∷ 110 ∷ 100 ∷ 32 ∷ []

-- `(mb `
unfoldable pub word_mb : List ℕ
word_mb = 40 ∷ 109 ∷ 98 ∷ 32 ∷ []

-- ` (refused `
unfoldable pub word_refused : List ℕ
word_refused = 32 ∷ 40 ∷ 114 ∷ 101 ∷ 102 ∷ 117 ∷ 115 ∷ 101 ∷ 100 ∷ 32 ∷ []

-- ` (bits `
unfoldable pub word_bits : List ℕ
word_bits = 32 ∷ 40 ∷ 98 ∷ 105 ∷ 116 ∷ 115 ∷ 32 ∷ []

-- `) (luma `
unfoldable pub word_luma : List ℕ
word_luma = 41 ∷ 32 ∷ 40 ∷ 108 ∷ 117 ∷ 109 ∷ 97 ∷ 32 ∷ []

-- `) (cb `
unfoldable pub word_cb : List ℕ
word_cb = 41 ∷ 32 ∷ 40 ∷ 99 ∷ 98 ∷ 32 ∷ []

-- `) (cr `
unfoldable pub word_cr : List ℕ
word_cr = 41 ∷ 32 ∷ 40 ∷ 99 ∷ 114 ∷ 32 ∷ []

-- ---- lines

-- (end N)
abbrev pub end_text : ℕ → List ℕ
end_text n = word_end ++ decimal_of n ++ closing

-- (picture WIDTH HEIGHT DEPTH METHOD), after what was said before it
abbrev pub picture_text : List ℕ → ℕ → ℕ → ℕ → ℕ → List ℕ
picture_text before w h d m = before ++ word_picture ++ decimal_of w ++ space ++ decimal_of h ++ space ++ decimal_of d ++ space ++ decimal_of m ++ closing

-- (picture refused N)
abbrev pub picture_refused_text : ℕ → List ℕ
picture_refused_text n = word_picture_refused ++ decimal_of n ++ closing

-- (mb COLUMN ROW
abbrev pub place_text : ℕ → ℕ → List ℕ
place_text column row = word_mb ++ decimal_of column ++ space ++ decimal_of row

-- (mb COLUMN ROW (refused N))
abbrev pub mb_refused_text : ℕ → ℕ → ℕ → List ℕ
mb_refused_text column row n = place_text column row ++ word_refused ++ decimal_of n ++ closing_two

-- a word, then the least and the greatest, after what was said before
abbrev pub span_text : List ℕ → List ℕ → ℤ → ℤ → List ℕ
span_text before w a b = before ++ w ++ integer_of a ++ space ++ integer_of b

-- (mb COLUMN ROW (bits N) (luma LEAST GREATEST) (cb LEAST GREATEST) (cr LEAST GREATEST))
abbrev pub mb_text : ℕ → ℕ → ℕ → ℤ → ℤ → ℤ → ℤ → ℤ → ℤ → List ℕ
mb_text column row n a b c d e f =
    span_text (span_text (span_text (place_text column row ++ word_bits ++ decimal_of n) word_luma a b) word_cb c d) word_cr e f ++ closing_two
