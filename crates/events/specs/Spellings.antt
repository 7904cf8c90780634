-- How many events of a list are spelled in each way. No reader is named here. Definitions only.
use Rattle.std.specs.Prelude.{List, [], ◌∷◌, ℕ, ◌+◌}
use Rattle.events.specs.Event.{Event, spelling_of}
use Rattle.events.specs.declared.spelling.Spelling.{Spelling}
use Rattle.events.specs.declared.spelling.Spelling.TheVariants.{Plain, RvlcEscape, Type1, Type2, Type3}
use Rattle.events.specs.declared.spelling.Spellings.{Spellings}

abbrev pub no_spellings : Spellings
no_spellings = record { plain = 0; type1 = 0; type2 = 0; type3 = 0; rvlc_escape = 0 }

-- one event more of a spelling
abbrev pub one_more : Spelling → Spellings → Spellings
one_more Plain n = record { plain = n.plain + 1; type1 = n.type1; type2 = n.type2; type3 = n.type3; rvlc_escape = n.rvlc_escape }
one_more Type1 n = record { plain = n.plain; type1 = n.type1 + 1; type2 = n.type2; type3 = n.type3; rvlc_escape = n.rvlc_escape }
one_more Type2 n = record { plain = n.plain; type1 = n.type1; type2 = n.type2 + 1; type3 = n.type3; rvlc_escape = n.rvlc_escape }
one_more Type3 n = record { plain = n.plain; type1 = n.type1; type2 = n.type2; type3 = n.type3 + 1; rvlc_escape = n.rvlc_escape }
one_more RvlcEscape n = record { plain = n.plain; type1 = n.type1; type2 = n.type2; type3 = n.type3; rvlc_escape = n.rvlc_escape + 1 }

-- the number of events of each spelling
unfoldable pub spellings_of : List Event → Spellings
spellings_of [] = no_spellings
spellings_of (e ∷ es) = one_more (spelling_of e) (spellings_of es)

-- the events of every spelling
abbrev pub total_of : Spellings → ℕ
total_of n = n.plain + n.type1 + n.type2 + n.type3 + n.rvlc_escape

-- of two lists together
abbrev pub together : Spellings → Spellings → Spellings
together n m =
    record {
      plain = n.plain + m.plain;
      type1 = n.type1 + m.type1;
      type2 = n.type2 + m.type2;
      type3 = n.type3 + m.type3;
      rvlc_escape = n.rvlc_escape + m.rvlc_escape;
    }
