-- `coefficients::short::dc_level` meets its contract: a quantiser, a difference and DCs that pass give a scaler and a sum. Assumes nothing.
use mathlib.Core.Path.{◌≡◌, ap, ◌∙◌}
use Prim.Native.Nat.{ℕ}
use native.Mathlib.Omega.{arith}
use lib.IntN.{ℤ, pos, ◌+ℤ◌}
use lib.ListN.{get_or}
use mir.Facts.{to_z-of_z}
use borrow.Author.Rules.{rules}
use Rattle.numbers.proofs.Words.{held}
use Rattle.ranges.proofs.RangeLaws.{quantiser_range}
use Rattle.prediction.specs.Prediction.{dc_prediction, dc_scaler}
use Rattle.prediction.specs.Stages.{dc_answer}
use Rattle.prediction.proofs.RefusalLaws.{dc-given}
use Rattle.prediction.proofs.ScalerLaws.{scaler_given}
use Rattle.coefficients.specs.Level.{saturated}
use Rattle.coefficients.proofs.RefusalLaws.{numbers_passing}
use Rattle.coefficients.proofs.short.dc_level.Statement.{statement}
use Rattle.std.specs.Prelude.{Ok}
use Rattle.coefficients.proofs.short.dc_level.Tie as tie

dc_scaler-requires : tie.Need-dc_scaler-requires
dc_scaler-requires c κs = search rules

-- the quantiser is one, so its scaler is told
scaler_is : (c : tie.After-dc_scaler) → c.dc_scaler.result ≡ Ok (dc_scaler c.args.component c.args.q)
scaler_is c =
    let s = c.before in
    let r = quantiser_range s.args.q s.requires.1 in
    c.dc_scaler.ensures.0 ∙ scaler_given s.args.component s.args.q r.0 r.1

enum_known-scaler : tie.Need-enum_known-scaler
enum_known-scaler c = search rules

enum_told-1 : tie.Need-enum_told-1
enum_told-1 c = search rules

returns-in_default : tie.Need-returns-in_default
returns-in_default c =
    let t = c.in_default.is in
    let u = scaler_is c.before in
    let z : ◌≡◌ {A = ℕ} 0 1 = cc in
    absurd (omega arith)

bounds-n-0 : tie.Need-bounds-n-0
bounds-n-0 c = search rules

bounds-n-2 : tie.Need-bounds-n-2
bounds-n-2 c = search rules

predict_intra_dc-requires : tie.Need-predict_intra_dc-requires
predict_intra_dc-requires c κs = search rules

abbrev start : tie.After-predict_intra_dc → tie.Start
start c = c.before.before.before.before.before

abbrev unlimited : tie.After-predict_intra_dc → ℤ
unlimited c =
    let a = (start c).args in
    a.difference +ℤ dc_prediction a.direction (get_or a.n.now 0 (pos 0)) (get_or a.n.now 2 (pos 0)) (dc_scaler a.component a.q)

-- the difference and the DCs pass, so the sum is told
sum_is : (c : tie.After-predict_intra_dc) → c.predict_intra_dc.result ≡ Ok (unlimited c)
sum_is c =
    let s = start c in
    let n = s.args.n.now in
    let t = c.before.before.before in
    let u = scaler_is t.before in
    let w = t.in-Ok.is in
    let e : t.in-Ok.scaler ≡ dc_scaler s.args.component s.args.q = cc in
    let a = held (get_or n 0 (pos 0)) c.predict_intra_dc-arg-1.given in
    let b = held (get_or n 2 (pos 0)) c.predict_intra_dc-arg-2-1.given in
    let p = numbers_passing n s.requires.2 in
    c.predict_intra_dc.ensures.0
    ∙ (λ i. dc_answer (to_z-of_z s.ranges.difference i) s.args.direction (a i) (b i) (e i))
    ∙ dc-given s.args.difference s.args.direction (get_or n 0 (pos 0)) (get_or n 2 (pos 0)) (dc_scaler s.args.component s.args.q) s.requires.0 p.a p.c

enum_known-sum : tie.Need-enum_known-sum
enum_known-sum c = search rules

enum_told-in_default-predict_intra_dc : tie.Need-enum_told-in_default-predict_intra_dc
enum_told-in_default-predict_intra_dc c = search rules

returns-in_default-predict_intra_dc : tie.Need-returns-in_default-predict_intra_dc
returns-in_default-predict_intra_dc c =
    let t = c.in_default-predict_intra_dc.is in
    let u = sum_is c.before in
    let z : ◌≡◌ {A = ℕ} 0 1 = cc in
    absurd (omega arith)

saturate_qf-requires : tie.Need-saturate_qf-requires
saturate_qf-requires c κs = search rules

returns : tie.Need-returns
returns c =
    let f = c.before in
    let t = f.in-Ok-predict_intra_dc.is in
    let u = sum_is f.before in
    let e : f.in-Ok-predict_intra_dc.sum ≡ unlimited f.before = cc in
    held c.saturate_qf.result c.saturate_qf.type_inv ∙ c.saturate_qf.ensures ∙ ap saturated (held f.in-Ok-predict_intra_dc.sum c.in-Ok-predict_intra_dc.known_told-in-Ok-predict_intra_dc-1-own.given.0.1 ∙ e)

pub dc_level_spec : {M : Type 1} → statement M
dc_level_spec =
    tie.close
    (tie.spec
    dc_scaler-requires
    enum_known-scaler
    enum_told-1
    returns-in_default
    bounds-n-0
    bounds-n-2
    predict_intra_dc-requires
    enum_known-sum
    enum_told-in_default-predict_intra_dc
    returns-in_default-predict_intra_dc
    saturate_qf-requires
    returns)
