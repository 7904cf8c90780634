-- Inside the crate: what the parts of a header say in the reader's terms, where a position stands for the bits from it on. Definitions only.
use Rattle.std.specs.Prelude.{cond, List, ◌≡◌, ℕ, ◌%◌, ◌*◌, ◌+◌, ◌-◌, ◌/◌, ◌<◌, ◌^◌, ◌≤◌, ltb, nat_abs, pos, ◌+ℤ◌, length, Err, Ok, Result, Option, None, Some}
use Rattle.bits.specs.Bits.{bits_from}
use Rattle.bits.specs.Cursor.{cursor_at}
use Rattle.fields.specs.Inside.{Says}
use Rattle.fields.specs.Reader.{Res, mapped, no, ok}
use Rattle.ranges.specs.Range.{limited_quantiser}
use Rattle.headers.specs.Fields.{delta_of, record_by}
use Rattle.headers.specs.Header.{Header, Rest, row_of}
use Rattle.headers.specs.HeaderReader.{read_header}
use Rattle.headers.specs.declared.parse.HeaderFields.{HeaderFields}
use Rattle.headers.specs.declared.parts.HeaderParts.{HeaderParts}
use Rattle.headers.specs.declared.window.PartsAt.{PartsAt}
use Rattle.bits.specs.declared.cursor.Cursor.{Cursor}
use Rattle.fields.specs.declared.error.TextureParseError.{TextureParseError}

abbrev pub said_parts : List ℕ → Result (HeaderParts × Cursor) TextureParseError → Res HeaderParts
said_parts d (Ok (p, c)) = ok p (bits_from d c.bit_pos)
said_parts d (Err e) = no e

abbrev pub InsideParts : List ℕ → Result (HeaderParts × Cursor) TextureParseError → Type 0
InsideParts d (Ok (p, c)) = c.bit_pos ≤ 8 * length d
InsideParts d (Err e) = Unit {0}

abbrev pub SaysParts : List ℕ → Result (HeaderParts × Cursor) TextureParseError → Res HeaderParts → Type 0
SaysParts d r m = Says (said_parts d) (InsideParts d) r m

-- the parts: with dquant, with all that follows mcbpc, of a header
abbrev pub parts_by : ℕ → ℕ → ℕ → Option ℕ → HeaderParts
parts_by mcbpc flag cbpy o = record { mcbpc = mcbpc; ac_pred_flag = flag; cbpy = cbpy; dquant_delta = delta_of o }

abbrev pub with_rest : ℕ → Rest → HeaderParts
with_rest mcbpc x = parts_by mcbpc x.0 x.1.0 x.1.1

abbrev pub parts_of : Header → HeaderParts
parts_of h = with_rest (row_of h.0) h.1

-- parts that a header has, and the fields that they say
abbrev pub PartsFine : HeaderParts → Type 0
PartsFine p = (p.mcbpc < 8) × (p.cbpy < 16) × (nat_abs p.dquant_delta ≤ 2)

abbrev pub fields_by : HeaderParts → ℕ → HeaderFields
fields_by p q =
    record {
      header = record_by p.mcbpc p.ac_pred_flag p.cbpy;
      dquant_delta = p.dquant_delta;
      quantiser_scale = limited_quantiser (pos q +ℤ p.dquant_delta);
    }

-- ---- by one window w: m and y are what six bits tell of mcbpc and cbpy, a length and 16 times a row

-- the header's length
abbrev pub length_in : ℕ → ℕ → ℕ
length_in m y = cond (ltb m 64) (m % 16 + 1 + y % 16) (m % 16 + 1 + y % 16 + 2)

-- its ac_pred_flag, and its dquant from row 4 of mcbpc on
abbrev pub flag_in : ℕ → ℕ → ℕ
flag_in w m = w / 2 ^ (31 - m % 16) % 2

abbrev pub dquant_in : ℕ → ℕ → ℕ → Option ℕ
dquant_in w m y = cond (ltb m 64) None (Some (w / 2 ^ (29 - m % 16 - y % 16) % 4))

abbrev pub parts_in : ℕ → ℕ → ℕ → HeaderParts
parts_in w m y = parts_by (m / 16) (flag_in w m) (y / 16) (dquant_in w m y)

-- a next position 0 says nothing, any other the header
abbrev pub PartsSettled : List ℕ → ℕ → PartsAt → Type 0
PartsSettled d at r = (r.next ≡ 0 → ⊥) → SaysParts d (Ok (r.parts, cursor_at r.next)) (mapped parts_of (read_header (bits_from d at)))
