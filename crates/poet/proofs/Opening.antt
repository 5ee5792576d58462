-- Opening undoes sealing, and sealing undoes opening.
use Rattle.std.proofs.Common.{◌≡◌, ℕ, ◌+◌, ◌-◌, ◌*◌, ◌≤◌, List, [], length, take, refl, ap, ◌∙◌, arith, lit<, length-append, take-append-drop, length-take, take_at, drop_at}
use Rattle.block.specs.Bytes.{Bytes, Block}
use Rattle.poet.specs.Functions.{Functions, Lawful}
use Rattle.poet.specs.Seal.{Limits}
use Rattle.poet.specs.Rows.{AllRows, turned, whole, last_length, start, length_mask, closing, sealed_rows, opened_rows, ciphertext, tag, opened, Computed, Accepts}
use Rattle.block.proofs.Xors.{block_xor, bytes_nil, bytes_append, bytes_take}
use Rattle.poet.proofs.Rows.{Kept}
use Rattle.poet.proofs.Turn.{Ways, turn, Facts, facts}

pub ends_law : (m : List ℕ) → 1 ≤ length m → 16 * whole m + last_length m ≡ length m
ends_law m l = omega arith

pub ends_most : (m : List ℕ) → last_length m ≤ 16
ends_most m = omega arith

pub ends_some : (m : List ℕ) → 1 ≤ length m → 1 ≤ last_length m
ends_some m l = omega arith

-- a block's front fills the last block
pub fills : (m t : List ℕ) → Block t → last_length m + length (take (16 - last_length m) t) ≡ 16
fills m t b = omega (arith, length-take (16 - last_length m) t, b.long, ends_most m)

module _ (f : Functions) (L : Lawful f) where
  pub ways : Ways f.enc f.dec f.chain
  ways = record { permutes = L.permutes; cb = L.chain_block }

  pub start_kept : (h : List ℕ) → Bytes h → Kept (start f h)
  unfolding start
  start_kept h hb = record { x_block = L.dig_block h hb; y_block = block_xor _ _ (L.dig_block h hb) (L.num_block 1 (lit< tt)); bytes = bytes_nil }

  pub turned_kept : (h : List ℕ) → Bytes h → Kept (turned (start f h))
  turned_kept h hb = record { x_block = (start_kept h hb).y_block; y_block = (start_kept h hb).x_block; bytes = bytes_nil }

  pub length_mask_block : (n : ℕ) → n ≤ 1048576 → Block (length_mask f n)
  unfolding length_mask
  length_mask_block n l = L.permutes.enc_block _ (L.num_block _ (omega arith))

  pub closing_block : (t x y : List ℕ) → Block t → Block x → Block y → Block (closing f t x y)
  unfolding closing
  closing_block t x y p q r = block_xor _ t (block_xor _ _ (L.permutes.enc_block _ (block_xor _ t (L.chain_block x q) p)) (L.chain_block y r)) p

  pub start_out : (h : List ℕ) → (start f h).out ≡ []
  unfolding start
  start_out h = refl

  pub sealed : (h m : List ℕ) → Limits h m
      → Facts f.enc f.dec f.chain (length_mask f (length m)) (whole m) (last_length m) (start f h) m (take (16 - last_length m) (f.dig h))
  sealed h m l =
      facts f.enc f.dec f.chain ways (length_mask f (length m)) (whole m) (last_length m) (start f h) m _ (length_mask_block (length m) l.most) (start_kept h l.header_bytes) (start_out h) l.bytes
      (ends_law m l.some) (bytes_take _ _ (L.dig_block h l.header_bytes).bytes) (fills m (f.dig h) (L.dig_block h l.header_bytes))

  pub unsealed : (h c t : List ℕ) → Limits h c → Block t
      → Facts f.dec f.enc f.chain (length_mask f (length c)) (whole c) (last_length c) (turned (start f h)) c (take (16 - last_length c) t)
  unsealed h c t l bt =
      facts f.dec f.enc f.chain (turn ways) (length_mask f (length c)) (whole c) (last_length c) (turned (start f h)) c _ (length_mask_block (length c) l.most) (turned_kept h l.header_bytes) refl l.bytes
      (ends_law c l.some) (bytes_take _ _ bt.bytes) (fills c t bt)

  -- what was sealed is opened
  pub opens : (h m c t : List ℕ) → Computed f h m c t
      → opened_rows f h c t ≡ record { out = m; rest = take (16 - last_length m) (f.dig h); x = (sealed_rows f h m).y; y = (sealed_rows f h m).x }
  unfolding sealed_rows opened_rows
  opens h m c t s =
      let F = sealed h m s.limits in
      let lc : length c ≡ length m = ap length s.cipher_is ∙ F.long in
      let tl : take (16 - last_length m) t ≡ (sealed_rows f h m).rest = rw s.tag_is (take_at (sealed_rows f h m).rest _ (16 - last_length m) (omega (arith, F.rest_long))) in
      rw (lc, tl, s.cipher_is) F.turns

  -- what was opened is sealed
  seals : (h c t : List ℕ) → Accepts f h c t
      → sealed_rows f h (opened f h c t) ≡ record { out = c; rest = take (16 - last_length c) t; x = (opened_rows f h c t).y; y = (opened_rows f h c t).x }
  unfolding sealed_rows opened_rows start
  seals h c t s =
      let F = unsealed h c t s.limits s.tag_block in
      rw (F.long, ← s.fill) F.turns

  pub opened_length : (h c t : List ℕ) → Limits h c → Block t → length (opened f h c t) ≡ length c
  unfolding opened_rows
  opened_length h c t l bt = (unsealed h c t l bt).long

  pub opened_bytes : (h c t : List ℕ) → Limits h c → Block t → Bytes (opened f h c t)
  unfolding opened_rows
  opened_bytes h c t l bt = (unsealed h c t l bt).bytes

  pub accepted : (h c t : List ℕ) → Accepts f h c t → Computed f h (opened f h c t) c t
  accepted h c t s =
      let l : length (opened f h c t) ≡ length c = opened_length h c t s.limits s.tag_block in
      record {
        limits = record {
          header_bytes = s.limits.header_bytes;
          header_most = s.limits.header_most;
          bytes = opened_bytes h c t s.limits s.tag_block;
          some = omega (arith, s.limits.some);
          most = omega (arith, s.limits.most);
        };
        cipher_is = rw (seals h c t s, ciphertext);
        tag_is = rw (seals h c t s, tag, l, ← s.check, take-append-drop (16 - last_length c) t);
      }

  module _ (h m c t : List ℕ) (s : Computed f h m c t) where
    F : Facts f.enc f.dec f.chain (length_mask f (length m)) (whole m) (last_length m) (start f h) m (take (16 - last_length m) (f.dig h))
    F = sealed h m s.limits

    pub cipher_length : length c ≡ length m
    unfolding sealed_rows
    cipher_length = ap length s.cipher_is ∙ F.long

    cipher_bytes : Bytes c
    unfolding sealed_rows
    cipher_bytes = rw s.cipher_is F.bytes

    rest_long : last_length m + length (sealed_rows f h m).rest ≡ 16
    unfolding sealed_rows
    rest_long = F.rest_long

    rest_bytes : Bytes (sealed_rows f h m).rest
    unfolding sealed_rows
    rest_bytes = F.rest_bytes

    z_block : Block (closing f (f.dig h) (sealed_rows f h m).x (sealed_rows f h m).y)
    unfolding sealed_rows
    z_block = closing_block _ _ _ (L.dig_block h s.limits.header_bytes) F.x_block F.y_block

    tag_block : Block t
    tag_block =
        let z : List ℕ = closing f (f.dig h) (sealed_rows f h m).x (sealed_rows f h m).y in
        rw s.tag_is record {
          long = omega (arith, length-append (sealed_rows f h m).rest (take (last_length m) z), length-take (last_length m) z, z_block.long, rest_long, ends_most m);
          bytes = bytes_append _ _ rest_bytes (bytes_take (last_length m) z z_block.bytes);
        }

    pub sealed_accepts : Accepts f h c t
    sealed_accepts =
        let l : length c ≡ length m = cipher_length in
        record {
          limits = record {
            header_bytes = s.limits.header_bytes;
            header_most = s.limits.header_most;
            bytes = cipher_bytes;
            some = omega (arith, s.limits.some);
            most = omega (arith, s.limits.most);
          };
          tag_block = tag_block;
          fill = rw (opens h m c t s, l);
          check = rw (opens h m c t s, l, s.tag_is) (drop_at (sealed_rows f h m).rest _ (16 - last_length m) (omega (arith, rest_long)));
        }

    pub opened_is : opened f h c t ≡ m
    opened_is = ap (λ (r : AllRows). r.out) (opens h m c t s)
