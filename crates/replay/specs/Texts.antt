-- The text of what comes of an input.
use Rattle.std.specs.Prelude.{ℕ, List, [], ◌∷◌, ◌++◌, codes, decimal, vec_items, Ok, Err}
use Rattle.std.specs.List.{flat_map}
use Rattle.hex.specs.Hex.{encode_lower}
use Rattle.fault.specs.declared.kinds.SessionFault.{SessionFault}
use Rattle.fault.specs.declared.kinds.Placed.{Placed}
use Rattle.fault.specs.Numbers.{key_layer, key_number, layer_of, number_of, shown_fault}
use Rattle.script.specs.declared.played.Played.{Played}
use Rattle.script.specs.declared.played.Answer.{Answer}
use Rattle.script.specs.declared.played.Answer.TheVariants.{Header, Body, Finish}
use Rattle.script.specs.declared.played.End.{End}
use Rattle.script.specs.declared.played.End.TheVariants.{Unfinished, Sealed, Opened}
use Rattle.replay.specs.declared.lines.Rule.{Rule}
use Rattle.replay.specs.declared.lines.Rule.TheVariants as rule
use Rattle.replay.specs.declared.report.Outcome.{Outcome}
use Rattle.replay.specs.declared.report.Outcome.TheVariants as outcome

-- a line, and what follows it
abbrev pub line : (text more : List ℕ) → List ℕ
line text more = text ++ 10 ∷ more

abbrev pub rule_text : Rule → List ℕ
rule_text rule.Word = codes "a line begins with suite, key, header, seal, open, body or finish"
rule_text rule.Suite = codes "suite takes a number from 0 to 255"
rule_text rule.Room = codes "body takes its room in bytes, and then the bytes"
rule_text rule.Digits = codes "bytes are pairs of hexadecimal digits"
rule_text rule.Alone = codes "seal and open take nothing"
rule_text rule.Late = codes "suite and key stand before every call"
rule_text rule.Started = codes "header, seal and open stand before the body has started"
rule_text rule.NoBody = codes "body and finish stand between the body's start and its finish"
rule_text rule.Tag = codes "the finish of a sealing takes no bytes"

abbrev pub refused_text : Placed SessionFault → List ℕ
refused_text f = shown_fault (number_of f.fault) (layer_of f.fault) f.place

-- what one call answered
abbrev pub answer_text : Answer → List ℕ
answer_text (Header (Ok x)) = codes "header: taken"
answer_text (Header (Err f)) = codes "header: " ++ refused_text f
answer_text (Body (Ok n)) =
    codes "body: given " ++ (decimal n.0 ++ (codes ", held " ++ decimal n.1))
answer_text (Body (Err f)) = codes "body: " ++ refused_text f
answer_text (Finish (Ok n)) = codes "finish: accepted, last " ++ decimal n
answer_text (Finish (Err f)) = codes "finish: " ++ refused_text f

abbrev pub answers_text : List Answer → List ℕ
answers_text answers = flat_map (λ a. line (answer_text a) []) answers

abbrev pub end_text : End → List ℕ
end_text Unfinished = codes "given up before a finish"
end_text (Sealed last tag) = codes "tag:          " ++ encode_lower tag
end_text (Opened last) = codes "last place:   " ++ encode_lower last

-- what every call answered, what was taken and handed out, and how the session ended
abbrev pub session_text : Played → End → List ℕ
session_text p e = answers_text (vec_items p.answers)
    ++ line (codes "header taken: " ++ encode_lower (vec_items p.header))
    (line (codes "body taken:   " ++ encode_lower (vec_items p.body))
    (line (codes "handed out:   " ++ encode_lower (vec_items p.out))
    (line (end_text e) [])))

abbrev pub outcome_text : Outcome → List ℕ
outcome_text outcome.NoText = line (codes "the input is no UTF-8 text") []
outcome_text (outcome.Broken n r) =
    line (codes "line " ++ (decimal n ++ (codes ": " ++ rule_text r))) []
outcome_text (outcome.Refused f) =
    line (shown_fault (key_number f.fault) (key_layer f.fault) f.place) []
outcome_text (outcome.Played p e) = session_text p e
