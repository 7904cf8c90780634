-- `still_lines::text::put` meets its contract: what is said, in its place. Assumes nothing.
use Rattle.std.proofs.Common.{◌≡◌, ◌+◌, ap, arith, length, length-take-le, refl, rules, sym, take, ℕ}
use Rattle.std.proofs.lemmas.Slice.{put_mid-paste}
use Rattle.still_lines.proofs.text.put.Goals as goal

pub returns : goal.returns
returns c =
    let t = c.args.t in
    let l : length t.bytes ≡ 256 = search rules in
    let n : length (take t.len t.bytes) ≡ t.len = length-take-le t.len t.bytes (omega arith) in
    record {
      value = (ap (λ (k : ℕ). c.args.at + k) (sym n), refl);
      out = put_mid-paste c.args.at _ c.args.out.now c.copy_from_slice.new.self (take t.len t.bytes) (length (take t.len t.bytes)) c.copy_from_slice.ensures.after (omega (arith, n)) refl;
    }
