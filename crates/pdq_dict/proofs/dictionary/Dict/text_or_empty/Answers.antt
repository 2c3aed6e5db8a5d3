use Rattle.std.proofs.Common.{ℕ, zero, suc, List, [], ◌∷◌, All, get_or, subst, sym}
use Rattle.std.proofs.lemmas.List.Elements.{All-head, All-tail}
use Rattle.std.proofs.lemmas.Str.{IsUtf8-nil, is_utf8-from_IsUtf8}
use Rattle.pdq_dict.specs.Texts.{IsUtf8Text}
use Rattle.pdq_dict.proofs.dictionary.Dict.text_or_empty.Goals as goal

utf8_at : (texts : List (List ℕ)) (i : ℕ) → All IsUtf8Text texts → IsUtf8Text (get_or texts i [])
utf8_at [] i all = is_utf8-from_IsUtf8 [] IsUtf8-nil
utf8_at (t ∷ texts) zero all = All-head IsUtf8Text t texts all
utf8_at (t ∷ texts) (suc i) all = utf8_at texts i (All-tail IsUtf8Text t texts all)

pub returns-clause-utf8 : goal.returns-clause-utf8
returns-clause-utf8 c = subst IsUtf8Text (sym c.text_or_empty.ensures.text) (utf8_at c.self.inside.texts c.args.code c.self.invariant.utf8)
