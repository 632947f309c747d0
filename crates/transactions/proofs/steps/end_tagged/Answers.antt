use Rattle.std.proofs.Common.{rules, ◌≡◌, ◌∙◌, sym, ap, refl, true, None}
use Rattle.transactions.specs.declared.open.Open.{Open}
use Rattle.transactions.specs.Machine.{without}
use Rattle.transactions.specs.Stored.{at}
use Rattle.transactions.proofs.Sounds.{Step, take_step, sound_step, live_step, is_name}
use Rattle.transactions.proofs.Tagged.{tagged_there, without_dropped}
use Rattle.transactions.proofs.steps.end_tagged.Goals as goal

pub returns-then-is_tagged-clause-sound : goal.returns-then-is_tagged-clause-sound
returns-then-is_tagged-clause-sound c =
    let b = c.args.book.now in
    let place = c.args.place in
    let result : c.is_tagged.result ≡ true = search rules in
    let it = tagged_there c.args.tag.now (at b place) (sym c.is_tagged.ensures ∙ result) in
    let step : Step b c.take.new.self place it.0 (λ (x : Open). None) =
    take_step b c.take.new.self place it.0 (λ (x : Open). None) it.1 refl c.take.ensures.book c.take.ensures.kept c.take.ensures.taken c.take.ensures.len in
    sound_step b c.take.new.self place it.0 (λ (x : Open). None) c.requires.sound step

pub returns-then-is_tagged-clause-live : goal.returns-then-is_tagged-clause-live
returns-then-is_tagged-clause-live c =
    let b = c.args.book.now in
    let place = c.args.place in
    let tag = c.args.tag.now in
    let result : c.is_tagged.result ≡ true = search rules in
    let it = tagged_there tag (at b place) (sym c.is_tagged.ensures ∙ result) in
    let t = it.0 in
    let step : Step b c.take.new.self place t (λ (x : Open). None) =
    take_step b c.take.new.self place t (λ (x : Open). None) it.1 refl c.take.ensures.book c.take.ensures.kept c.take.ensures.taken c.take.ensures.len in
    ap (without tag) (live_step b c.take.new.self place t (λ (x : Open). None) c.requires.sound step t.tag t.number (is_name t.tag t.number t refl refl))
    ∙ without_dropped tag t it.2 _
