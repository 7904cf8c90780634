-- Inside the crate: the number of events of each spelling in one number, plain ones by 1 and those of type 1, 2 and 3 by 2^16, 2^32 and 2^48. Definitions only.
use Rattle.std.specs.Prelude.{◌≡◌, ℕ, ◌+◌, ◌*◌, ◌/◌, ◌%◌, ◌≤◌}
use Rattle.events.specs.Spellings.{total_of}
use Rattle.events.specs.declared.spelling.Spelling.{Spelling}
use Rattle.events.specs.declared.spelling.Spelling.TheVariants.{Plain, RvlcEscape, Type1, Type2, Type3}
use Rattle.events.specs.declared.spelling.Spellings.{Spellings}

-- what an event adds; no plain list has a reversible escape
abbrev pub weight_of : Spelling → ℕ
weight_of Plain = 1
weight_of Type1 = 65536
weight_of Type2 = 4294967296
weight_of Type3 = 281474976710656
weight_of RvlcEscape = 0

abbrev pub packed : Spellings → ℕ
packed n = n.plain + 65536 * n.type1 + 4294967296 * n.type2 + 281474976710656 * n.type3

-- at most so many events, none a reversible escape
pub record Packs (w : ℕ) (n : Spellings) (most : ℕ) : Type 0 where
  pub is : w ≡ packed n
  pub none : n.rvlc_escape ≡ 0
  pub few : total_of n ≤ most

-- and out of one number again
abbrev pub apart : ℕ → Spellings
apart w = record { plain = w % 65536; type1 = w / 65536 % 65536; type2 = w / 4294967296 % 65536; type3 = w / 281474976710656; rvlc_escape = 0 }
