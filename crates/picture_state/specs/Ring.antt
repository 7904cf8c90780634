-- Where the records of macroblocks lie in the store: a ring of 2 w of them, `slot_length` numbers apart. Definitions only.
use Rattle.std.specs.Prelude.{cond, false, List, ℕ, ◌+◌, ◌*◌, ◌-◌, ◌%◌, leb, ltb, ℤ}
use Rattle.neighbours.specs.Neighbours.{Around, around_by}
use Rattle.places.specs.declared.place.Place.{Place}
use Rattle.picture_state.specs.Sizes.{slot_length}
use Rattle.picture_state.specs.declared.picture.Picture.{Picture}

-- where macroblock n looks for the record of the macroblock that came `back` before it
abbrev pub offset : ℕ → ℕ → ℕ → ℕ
offset w n back = (n + 2 * w - back) % (2 * w) * slot_length

-- the whole picture is one packet: a neighbour is missing only outside it, by its place alone
abbrev pub place_of : Picture → ℕ → Place
place_of p q =
    record {
      left = offset p.width p.accepted 1;
      has_left = ltb 0 (p.accepted % p.width);
      above_left = offset p.width p.accepted (p.width + 1);
      has_above_left = cond (ltb 0 (p.accepted % p.width)) (leb p.width p.accepted) false;
      above = offset p.width p.accepted p.width;
      has_above = leb p.width p.accepted;
      bits_per_pixel = p.bits_per_pixel;
      quantiser_scale = q;
    }

-- what the macroblock that is due takes of the store
unfoldable pub around_due : Picture → ℕ → List ℤ → Around
around_due p q s = around_by (place_of p q) s
