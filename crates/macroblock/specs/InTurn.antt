-- The block's reading taken six times: each block is read where the one before it ended. Definitions only.
use Rattle.std.specs.Prelude.{Bool, List, [], ◌∷◌, ℕ}
use Rattle.bits.specs.Bits.{bits_from}
use Rattle.fields.specs.Answer.{after}
use Rattle.sentences.specs.Macroblock.{Parts, Place}
use Rattle.sentences.specs.MacroblockReader.{read_block}
use Rattle.fields.specs.Reader.{Res, bind, ok}

-- what `decode_intra_block_full` reads at a position, then the same at the position that it reports
unfoldable pub in_turn : List ℕ → Bool → Bool → ℕ → List Place → Res (List Parts)
in_turn d dc_coded rev at [] = ok [] (bits_from d at)
in_turn d dc_coded rev at (s ∷ ss) =
    bind (read_block dc_coded rev s (bits_from d at)) (λ a r. bind (in_turn d dc_coded rev (after d r).bit_pos ss) (λ xs r. ok (a ∷ xs) r))
