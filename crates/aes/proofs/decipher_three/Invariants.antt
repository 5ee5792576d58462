use Rattle.std.proofs.Common.{◌-◌}
use Rattle.aes.specs.Between.{AfterRounds, BeforeRounds}
use Rattle.aes.proofs.decipher_three.Given as goal

abbrev pub invariant-loop-i : goal.invariant-loop-i
invariant-loop-i l = record {
  first : BeforeRounds l.a.keys (9 - l.i) l.fn.x l.p;
  second : AfterRounds l.b.keys l.i l.fn.x l.q;
  third : AfterRounds l.b.keys l.i l.fn.y l.r;
}
