-- Rounds undone in the tower.
use Rattle.std.proofs.Common.{◌≡◌, ℕ, ◌+◌, ◌<◌, List, map, refl, sym, ap, ◌∙◌, add-one}
use Rattle.block.specs.Bytes.{Block}
use Rattle.aes.specs.State.{add_round_key, inv_sub_bytes, inv_shift_rows, inv_mix_columns}
use Rattle.aes.specs.Cipher.{IsSchedule, key_at}
use Rattle.aes.specs.Grouping.{unround, unrounds}
use Rattle.aes.specs.Tower.{unaffine_in_tower, unmixed_in_tower}
use Rattle.aes.specs.Between.{LeadsTo}
use Rattle.aes.proofs.Inverses.{unsub_block, unshift_block, unmix_block, add_block}

unrounds_more : (ks : List (List ℕ)) (n : ℕ) (s : List ℕ) → unrounds ks (n + 1) s ≡ unrounds ks n (unround (add_round_key (key_at ks (n + 1)) s))
unfolding unrounds
unrounds_more ks n s = rw add-one

-- the last round is undone up to InvSubBytes
pub undoing_begins : (ks : List (List ℕ)) (n : ℕ) (w t : List ℕ) → Block t → w ≡ map unaffine_in_tower t → LeadsTo ks n w (unrounds ks n (inv_sub_bytes t))
undoing_begins ks n w t b e = record { state = t; block = b; inside = e; leads = refl }

-- one whole round more is undone
pub undoing_goes_on : (ks ts : List (List ℕ)) → IsSchedule ks → ((i : ℕ) → i < 11 → key_at ts i ≡ unmixed_in_tower (key_at ks i)) → (m n : ℕ) → n ≡ m + 1 → n < 11
    → (w k v r : List ℕ) → k ≡ key_at ts n → ((t c : List ℕ) → Block t → Block c → w ≡ map unaffine_in_tower t → k ≡ unmixed_in_tower c → v ≡ unmixed_in_tower (add_round_key c (inv_sub_bytes t)))
    → LeadsTo ks n w r → LeadsTo ks m v r
undoing_goes_on ks ts s us m n e lt w k v r ke f h =
    let c = key_at ks n in
    let t = h.state in
    let b = add_block c (inv_sub_bytes t) (s.each n lt) (unsub_block t) in
    record {
      state = inv_shift_rows (inv_mix_columns (add_round_key c (inv_sub_bytes t)));
      block = unshift_block _ (unmix_block _ b);
      inside = f t c h.block (s.each n lt) h.inside (ke ∙ us n lt);
      leads = ap (λ i. unrounds ks m (unround (add_round_key (key_at ks i) (inv_sub_bytes t)))) e ∙ sym (unrounds_more ks m (inv_sub_bytes t)) ∙ ap (λ i. unrounds ks i (inv_sub_bytes t)) (sym e) ∙ h.leads;
    }
