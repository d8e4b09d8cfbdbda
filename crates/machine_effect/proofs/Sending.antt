-- The bytes of a word that is sent, as the library writes them.
use Rattle.std.proofs.Common.{◌≡◌, ℕ, ◌+◌, ◌/◌, ◌%◌, ◌<◌, ◌≤◌, List, length, append_assoc, take, drop, sym, ◌∙◌, arith, w32}
use Rattle.std.specs.Int.{to_be_bytes}
use Rattle.std.proofs.lemmas.List.{drop-drop}
use Rattle.std.proofs.lemmas.List.Edits.{sets, sets-eq}
use borrow.Rule.Slice.PartMut.{put_mid}
use Rattle.machine.specs.Machine.{word_bytes}

highest_first : (w : ℕ) → w < 4294967296 → to_be_bytes w32 w ≡ word_bytes w
highest_first w h = let top : w / 16777216 % 256 ≡ w / 16777216 = omega arith in rw top

pub four_bytes :
    (l : List ℕ) (i k w : ℕ) (bs : List ℕ)
    → bs ≡ to_be_bytes w32 w
    → w < 4294967296
    → k ≡ 4
    → i + 4 ≤ length l
    → put_mid i k l bs ≡ sets l i (word_bytes w)
four_bytes l i k w bs e h four room =
    let written = e ∙ highest_first w h in
    rw (written, four, sets-eq (word_bytes w) l i room, drop-drop 4 i l)
    (sym (append_assoc (take i l) (word_bytes w) (drop (i + 4) l)))
