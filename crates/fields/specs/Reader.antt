-- The reader, as a function of the bits that are left: a value and the bits after it, or a refusal. Here its steps: fields, codes and markers. Definitions only.
use Rattle.std.specs.Prelude.{cond, List, ℕ, ltb, leb, eqb, length, get_or, take, drop}
use Rattle.bits.specs.Bits.{Bits, val}
use Rattle.codes.specs.Table.{cut_at, row_at}
use Rattle.fields.specs.declared.error.TextureParseError.{TextureParseError}
use Rattle.fields.specs.declared.error.TextureParseError.TheVariants.{EndedInsideCode, Truncated}

pub data Res (A : Type 0) : Type 0 where
  ok : A → Bits → Res A
  no : TextureParseError → Res A

abbrev pub bind : {A B : Type 0} → Res A → (A → Bits → Res B) → Res B
bind (ok a r) k = k a r
bind (no e) k = no e

abbrev pub mapped : {A B : Type 0} → (A → B) → Res A → Res B
mapped f (ok a r) = ok (f a) r
mapped f (no e) = no e

-- n bits as a number: 1 if there are fewer
unfoldable pub field : ℕ → Bits → Res ℕ
field n b = cond (leb n (length b)) (ok (val (take n b)) (drop n b)) (no Truncated)

-- the refusal where no code begins the bits: 17 where they end inside one, else `err` with the window
abbrev pub no_code : List ℕ → List ℕ → ℕ → ℕ → (ℕ → TextureParseError) → Bits → TextureParseError
no_code cs ls width rows err b = cond (cut_at cs ls rows b) EndedInsideCode (err (val (take width b)))

-- a code among the first `rows` of a table, sought in `width` bits or in fewer if fewer remain: 1 if none remain
unfoldable pub code : List ℕ → List ℕ → ℕ → ℕ → (ℕ → TextureParseError) → Bits → Res ℕ
code cs ls width rows err b =
    cond (eqb (length b) 0) (no Truncated)
    (cond (ltb (row_at cs ls width rows b) rows) (ok (row_at cs ls width rows b) (drop (get_or ls (row_at cs ls width rows b) 0) b))
    (no (no_code cs ls width rows err b)))

-- a bit that must be 1
unfoldable pub marker : TextureParseError → Bits → Res ℕ
marker err b = bind (field 1 b) (λ m r. cond (eqb m 1) (ok m r) (no err))
