use Rattle.std.proofs.Common.{◌≡◌, ◌+◌, ◌≤◌}
use Rattle.numbers.specs.Every.{every}
use Rattle.forms.proofs.NumberLaws.{Told}
use Rattle.forms.specs.Reading.{part}
use Rattle.forms.specs.Words.{is_digit}
use Rattle.forms.proofs.field.value.Given as goal

abbrev pub invariant-loop-b : goal.invariant-loop-b
invariant-loop-b l = record {
  digits : every is_digit (part l.line l.from l.to) ≡ every is_digit (part l.line (l.from + l.b-index) l.to);
  bound : l.v ≤ l.most + 1;
  told : Told l.most l.line l.from l.to l.v (l.from + l.b-index);
}
