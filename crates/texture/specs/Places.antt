-- The 64 places that the events of a list fill. Definitions only.
use Rattle.std.specs.Prelude.{List, ℕ, ◌+◌, set, replicate, ℤ, pos}
use Rattle.codes.specs.declared.tcoef_tables.TcoefTable.{TcoefTable}
use Rattle.events.specs.Event.{run_of, level_of}
use Rattle.texture.specs.Events.{Events, final, more}

abbrev pub zeros : List ℤ
zeros = replicate 64 (pos 0)

-- the levels of a list in their places, over what stood there
unfoldable pub placed : TcoefTable → ℕ → List ℤ → Events → List ℤ
placed t place xs (final e) = set xs (place + run_of t e) (level_of t e)
placed t place xs (more e es) = placed t (place + run_of t e + 1) (set xs (place + run_of t e) (level_of t e)) es

-- the 64 places of a list whose first place is `place`
abbrev pub places_of : TcoefTable → ℕ → Events → List ℤ
places_of t place es = placed t place zeros es
