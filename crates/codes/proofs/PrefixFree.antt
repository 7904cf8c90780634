-- The tables pass their test: in each, escape included, no code begins another. Assumes nothing.
use mathlib.Core.List.{[], ◌∷◌, map}
use mathlib.Core.Path.{◌≡◌, refl}
use lib.Dec.{T}
use lib.ListN.{length}
use Rattle.codes.specs.DcSize.{dc_codes, dc_lens, dc_sizes, size_chrominance, size_luminance}
use Rattle.codes.specs.Header.{cbpy_codes, cbpy_intra, cbpy_lens, mcbpc_codes, mcbpc_intra, mcbpc_lens}
use Rattle.codes.specs.Rvlc.{rvlc_codes, rvlc_lens, rvlc_tcoef}
use Rattle.codes.specs.Table.{prefix_free}
use Rattle.codes.specs.Tcoef.{code_of, length_of, tcoef_inter, tcoef_intra, vlc_codes, vlc_lens}
use Rattle.codes.specs.declared.dc_size.DcComponent.{DcComponent}
use Rattle.codes.specs.declared.dc_size.DcComponent.TheVariants.{Luminance, Chrominance}

pub vlc_prefix_free : T (prefix_free 13 vlc_codes vlc_lens)
unfolding vlc_codes vlc_lens tcoef_intra
vlc_prefix_free = tt

pub rvlc_prefix_free : T (prefix_free 16 rvlc_codes rvlc_lens)
unfolding rvlc_codes rvlc_lens rvlc_tcoef
rvlc_prefix_free = tt

pub dc_prefix_free : (c : DcComponent) → T (prefix_free 13 (dc_codes c) (dc_lens c))
unfolding dc_codes dc_lens size_luminance size_chrominance
dc_prefix_free Luminance = tt
dc_prefix_free Chrominance = tt

-- stuffing among the codes
pub mcbpc_prefix_free : T (prefix_free 9 mcbpc_codes mcbpc_lens)
unfolding mcbpc_codes mcbpc_lens mcbpc_intra
mcbpc_prefix_free = tt

pub cbpy_prefix_free : T (prefix_free 6 cbpy_codes cbpy_lens)
unfolding cbpy_codes cbpy_lens cbpy_intra
cbpy_prefix_free = tt

-- the two tables of transform coefficients have the same codes
pub same_codes : map code_of tcoef_inter ≡ map code_of tcoef_intra
unfolding tcoef_intra tcoef_inter
same_codes = refl

pub same_lengths : map length_of tcoef_inter ≡ map length_of tcoef_intra
unfolding tcoef_intra tcoef_inter
same_lengths = refl

-- row i of the DC tables says size i
pub sizes_count : (c : DcComponent) → dc_sizes c ≡ 0 ∷ 1 ∷ 2 ∷ 3 ∷ 4 ∷ 5 ∷ 6 ∷ 7 ∷ 8 ∷ 9 ∷ 10 ∷ 11 ∷ 12 ∷ []
unfolding dc_sizes size_luminance size_chrominance
sizes_count Luminance = refl
sizes_count Chrominance = refl

-- ---- how many rows there are, the escapes and stuffing among them

pub vlc_rows : (length vlc_codes ≡ 103) × (length vlc_lens ≡ 103)
unfolding vlc_codes vlc_lens tcoef_intra
vlc_rows = (refl, refl)

pub rvlc-rows : (length rvlc_codes ≡ 170) × (length rvlc_lens ≡ 170)
unfolding rvlc_codes rvlc_lens rvlc_tcoef
rvlc-rows = (refl, refl)

pub dc-rows : (c : DcComponent) → (length (dc_codes c) ≡ 13) × (length (dc_lens c) ≡ 13)
unfolding dc_codes dc_lens size_luminance size_chrominance
dc-rows Luminance = (refl, refl)
dc-rows Chrominance = (refl, refl)

pub mcbpc_rows : (length mcbpc_codes ≡ 9) × (length mcbpc_lens ≡ 9)
unfolding mcbpc_codes mcbpc_lens mcbpc_intra
mcbpc_rows = (refl, refl)

pub cbpy_rows : (length cbpy_codes ≡ 16) × (length cbpy_lens ≡ 16)
unfolding cbpy_codes cbpy_lens cbpy_intra
cbpy_rows = (refl, refl)
