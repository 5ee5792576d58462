use Rattle.aes.specs.Between.{AfterRounds}
use Rattle.aes.proofs.encipher_three.Given as goal

abbrev pub invariant-loop-i : goal.invariant-loop-i
invariant-loop-i l = record {
  first : AfterRounds l.a.keys l.i l.fn.x l.p;
  second : AfterRounds l.b.keys l.i l.fn.x l.q;
  third : AfterRounds l.b.keys l.i l.fn.y l.r;
}
