use Rattle.std.proofs.Common.{◌≡◌, ◌≤◌, length, take, drop}
use Rattle.aes.specs.Grouping.{unrounds}
use Rattle.aes.proofs.Schedule.undo_rounds.Given as goal

-- The round keys that are left are the first of those from 1 on.
abbrev pub invariant-loop-key : goal.invariant-loop-key
invariant-loop-key l = record {
  left : l.key-iterator.iter.rest.now ≡ take (length l.key-iterator.iter.rest.now) (drop 1 l.self.keys);
  few : length l.key-iterator.iter.rest.now ≤ l.n;
  same : unrounds l.self.keys (length l.key-iterator.iter.rest.now) l.s ≡ unrounds l.self.keys l.n l.initial.s;
}
