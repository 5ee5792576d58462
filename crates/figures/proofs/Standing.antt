-- The known figures stand: each is what the definitions compute, and what they compute is the seal.
use Rattle.std.proofs.Common.{◌≡◌, ℕ, ◌+◌, T, leb, List, [], length, replicate, Ok, refl, ap, ◌∙◌, ap₂, lit<, lit≤}
use Rattle.block.specs.Bytes.{Bytes, Block, ◌⊕◌}
use Rattle.poet.specs.Seal.{Limits, Seals}
use Rattle.poet.specs.Rows.{takes, gives, next, rows, last, cut, start, length_mask, closing, sealed_rows, ciphertext, tag}
use Rattle.block.proofs.Xors.{bytes_nil, bytes_replicate}
use Rattle.poet.proofs.Computing.{computing_law}
use Rattle.forms.specs.Filling.{padded, filled}
use Rattle.forms.specs.Chained.{chain_x, chain_y, chained}
use Rattle.suites.specs.declared.listed.Listed.TheVariants.{Mirror}
use Rattle.suites.specs.Mirror.{mirror}
use Rattle.suites.proofs.Lawful.{listed_lawful}
use Rattle.session.specs.Sessions.{given_of}
use Rattle.script.specs.declared.played.Answer.TheVariants.{Body}
use Rattle.script.specs.Scripts.{answered, held_of}
use Rattle.sheet.specs.Table.{row_of}
use Rattle.sheet.specs.Entries.{bytes}
use Rattle.figures.specs.Figures.{Figures, BodyFigure, doors}

-- the mirror suite does not use its key, so one block shows it lawful under every key
some_key : Block (replicate 16 0)
some_key = record { long = refl; bytes = bytes_replicate 16 0 (lit< tt) }

limits : (M : List ℕ) → Bytes M → T (leb 1 (length M)) → T (leb (length M) 1048576) → Limits [] M
limits M b some most = record { header_bytes = bytes_nil; header_most = lit≤ tt; bytes = b; some = lit≤ some; most = lit≤ most }

computed : (key M C T : List ℕ) → Limits [] M → C ≡ ciphertext (mirror key) [] M → T ≡ tag (mirror key) [] M → Seals (mirror key) [] M C T
computed key M C T l c t = (computing_law (mirror key) (listed_lawful Mirror (replicate 16 0) some_key) [] M C T).0 (record { limits = l; cipher_is = c; tag_is = t })

doors_bytes : Bytes (bytes doors)
unfolding Bytes
doors_bytes = (lit< tt, (lit< tt, (lit< tt, (lit< tt, (lit< tt, (lit< tt, (lit< tt, (lit< tt, (lit< tt, (lit< tt, (lit< tt, (lit< tt, tt))))))))))))

body_figure : (held brought : ℕ) → BodyFigure held brought (given_of (held + brought)).0 (given_of (held + brought)).1
body_figure held brought n s h b free = ap (λ o. Body (answered o (given_of (held_of n + length s.bytes.now)))) free ∙ ap₂ (λ (x y : ℕ). Body (Ok (given_of (x + y)))) h b

pub figures : Figures
unfolding ◌⊕◌ padded filled chain_x chain_y chained takes gives next rows last cut start length_mask closing sealed_rows row_of
figures = record {
  digest = λ key. refl;
  one_byte = λ key. computed key _ _ _ (limits _ (bytes_replicate 1 0x41 (lit< tt)) tt tt) refl refl;
  whole_block = λ key. computed key _ _ _ (limits _ (bytes_replicate 16 0 (lit< tt)) tt tt) refl refl;
  two_blocks = λ key. computed key _ _ _ (limits _ (bytes_replicate 17 0 (lit< tt)) tt tt) refl refl;
  block_held = body_figure 0 16;
  first_block = refl;
  block_given = body_figure 16 1;
  next_byte = refl;
  two_given = body_figure 1 32;
  next_blocks = refl;
  entry_good = record { code = (refl, refl); parent = tt; count = refl; landing = tt; months = tt; drawing = tt };
  entry_bytes = refl;
  entry_sealed = λ key. computed key _ _ _ (limits _ doors_bytes tt tt) refl refl;
  yearly_need = (refl, refl);
}
