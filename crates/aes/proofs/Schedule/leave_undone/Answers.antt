use Rattle.std.proofs.Common.{sym, ap, ◌∙◌}
use Rattle.aes.specs.State.{add_round_key, inv_sub_bytes}
use Rattle.aes.specs.Cipher.{key_at}
use Rattle.aes.proofs.Rounds.{ten_back, unrounds_none}
use Rattle.aes.proofs.Schedule.leave_undone.Goals as goal

pub returns : goal.returns
returns c = λ y u.
    let ks = c.args.self.now.keys in
    let v = c.end_unsub_bytes.ensures u.state u.block u.inside in
    c.add_round_key.ensures ∙ ap (add_round_key (key_at ks 0)) (v ∙ sym (unrounds_none ks (inv_sub_bytes u.state)) ∙ u.leads) ∙ sym (ten_back ks y)
