-- Every key expands to words, and under words the cipher permutes the blocks.
use Rattle.std.proofs.Common.{◌≡◌, ℕ, zero, suc, ◌<◌, ◌^◌, List, length, subst, sym, refl, ap, ◌∙◌, arith}
use Rattle.std.proofs.lemmas.List.FromFn.{length-map-range_with_len, get_or-map-range_with_len}
use Rattle.block.specs.Bytes.{Block}
use Rattle.block.specs.Permutes.{Permutes}
use Rattle.speck.specs.declared.Schedule.{Schedule}
use Rattle.speck.specs.Cipher.{words, bytes, round, rounds, unrounds, key_at, schedule, enciphered, deciphered}
use Rattle.speck.specs.Laws.{IsSchedule, SpeckLaw, Published}
use Rattle.speck.proofs.Undone.{Fit, round_fits, rounds_fit, unrounds_fit, unrounds_rounds, rounds_unrounds}
use Rattle.speck.proofs.Blocks.{words_fit, bytes_block, words_bytes, bytes_words}

-- l and k, in each round whose number is a word
keys_fit : (key : List ℕ) → Block key → (i : ℕ) → i < 2 ^ 64 → Fit (record { x = (key_at key i).l; y = (key_at key i).k })
unfolding key_at round
keys_fit key b zero h = words_fit key b
keys_fit key b (suc i) h = round_fits i _ (omega arith) (keys_fit key b i (omega arith))

pub expands : (key : List ℕ) → Block key → IsSchedule (schedule key)
unfolding schedule
expands key b =
    let count : length (schedule key) ≡ 32 = length-map-range_with_len (λ i. (key_at key i).k) 0 32 in
    record {
      count = count;
      words = λ i d h.
          subst (λ k. k < 2 ^ 64) (sym (get_or-map-range_with_len (λ i. (key_at key i).k) 0 32 i i d (omega (arith, count)) (omega arith)))
          (keys_fit key b i (omega (arith, count))).y;
    }

pub permutes : (ks : List ℕ) → IsSchedule ks → Permutes (enciphered ks) (deciphered ks)
permutes ks s = record {
  dec_enc = λ b p.
      let f = words_fit b p in
      ap (λ w. bytes (unrounds ks w)) (words_bytes (rounds ks (words b)) (rounds_fit ks (words b) s.words f))
      ∙ ap bytes (unrounds_rounds ks (words b) s.words f) ∙ bytes_words b p;
  enc_dec = λ b p.
      let f = words_fit b p in
      ap (λ w. bytes (rounds ks w)) (words_bytes (unrounds ks (words b)) (unrounds_fit ks (words b) f))
      ∙ ap bytes (rounds_unrounds ks (words b) s.words f) ∙ bytes_words b p;
  enc_block = λ b p. bytes_block (rounds ks (words b));
  dec_block = λ b p. bytes_block (unrounds ks (words b));
}

-- what a value of `Schedule` holds
pub held : (s : Schedule) → IsSchedule s.keys
held s = record { count = s.count; words = s.words }

pub inverts : SpeckLaw
inverts key b = permutes (schedule key) (expands key b)

pub published : Published
unfolding schedule words bytes round rounds key_at
published = refl
