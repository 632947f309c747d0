use Rattle.std.proofs.Common.{◌++◌, ℕ, List, sym, ap, ◌∙◌, string_bytes}
use Rattle.std.proofs.lemmas.Iterator.{YieldsList-from_chars}
use Rattle.std.proofs.lemmas.Iterator.Consumers.{YieldsList-end}
use Rattle.std.proofs.lemmas.List.{flat_map_more, map-id}
use Rattle.std.specs.List.{flat_map}
use Rattle.digest.specs.Challenges.{character}
use Rattle.digest.proofs.challenge.append_escaped.Goals as goal

pub loop-character-preserved : goal.loop-character-preserved
loop-character-preserved c =
    c.in_ok-append_character.ensures
    ∙ ap (λ (l : List ℕ). l ++ character c.in-Some.character) c.loop-character.invariant
    ∙ flat_map_more character (string_bytes c.args.out.now) c.loop-character.yielded c.in-Some.character

pub returns : goal.returns
returns c =
    let t = YieldsList-end (YieldsList-from_chars c.args.text.now c.utf8.text cc) c.loop-character.yielded _ c.loop-character.yielded_by _ _ c.in-None.is c.next.ensures.steps in
    c.loop-character.invariant ∙ ap (λ (l : List ℕ). string_bytes c.args.out.now ++ flat_map character l) (sym (map-id c.loop-character.yielded) ∙ t.0)
