-- What a call of compile replies and leaves. Comments in quotes are document 01's words.
use Rattle.std.specs.Prelude.{ℕ, List}
use Rattle.sheet.specs.Translation.{object_text}
use Rattle.source.specs.Source.{Answer, accepted, refusal, answer}
use Rattle.call.specs.Reply.{Writing, refused_writing, text_writing}

-- "A source's object is its sheet's translation."; 12 "object buffer too short, all else well"
abbrev pub answer_call : Answer → List ℕ → Writing
answer_call (accepted s) buffer = text_writing 12 (object_text s) buffer
answer_call (refusal n place) buffer = refused_writing n place buffer

unfoldable pub compile_call : List ℕ → List ℕ → Writing
compile_call source buffer = answer_call (answer source) buffer
