-- What a call of read-back replies and leaves. The sheet of an object is the one that translates to it; `untranslate` is a way
-- to find it, and theorems settle that it does, so that a reader need not believe it. Comments in quotes are document 01's
-- words.
use Rattle.std.specs.Prelude.{ℕ, List}
use Rattle.order.specs.Object.{Reading, object, refused, reading}
use Rattle.sheet.specs.Fields.{sheet_text}
use Rattle.sheet.specs.ReadBack.{Given, given, none, untranslate}
use Rattle.call.specs.Reply.{Writing, refused_writing, text_writing}

-- 31 "good object, but no sheet translates to it", 32 "sheet buffer too short"
abbrev pub sheet_call : Given → List ℕ → Writing
sheet_call (given s) buffer = text_writing 32 (sheet_text s) buffer
sheet_call none buffer = refused_writing 31 0 buffer

abbrev pub object_sheet_call : Reading → List ℕ → Writing
object_sheet_call (object v t os) buffer = sheet_call (untranslate v t os) buffer
object_sheet_call (refused n place) buffer = refused_writing n place buffer

-- "Object checks: 21, 22, the first line with 23 or 24, then 25, then 31, 32."
unfoldable pub read_back_call : List ℕ → List ℕ → Writing
read_back_call text buffer = object_sheet_call (reading text) buffer
