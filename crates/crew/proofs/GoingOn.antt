-- What went out before, and what the taker got since, is what one notifier sends.
use Rattle.std.proofs.Common.{◌≡◌, List, [], ◌++◌, map, refl, ap, sym, subst, ◌∙◌}
use Rattle.std.proofs.lemmas.List.{map-append}
use Rattle.notifier_model.specs.declared.event.Event.{Event}
use Rattle.notifier_model.specs.declared.event.Out.{Out}
use Rattle.notifier_model.specs.Out.{Send, out_of}
use Rattle.notifier_model.specs.Run.{run, run_from, made, made_from, empty}
use Rattle.notifier_model.specs.Start.{Start, tag_of}
use Rattle.notifier.specs.Standing.{Standing, first_standing}
use Rattle.notifier.proofs.Joined.{made_joined}
use Rattle.life.specs.IsolationLaws.{alone}
use Rattle.life.specs.Laws.{AreNotifies, notifies_with, outs}
use Rattle.life.specs.Notices.{newest_first, notices}
use Rattle.life.proofs.Outs.{life_law}
use Rattle.life.proofs.SentOut.{outs_law}
use Rattle.crew.specs.Worked.{outs_for}
use Rattle.crew.specs.Laws.{events_handled, its_tag}
use Rattle.crew.specs.GoesOn.{standing_after, events_in_all, outs_in_all, notices_in_all, GoesOnLaw, LifeGoesOnLaw, AloneGoesOnLaw}

-- a new desk stands as one after no events
pub fresh : (start : Start) → first_standing start ≡ standing_after start []
unfolding run run_from
fresh start = refl

-- for which nothing went out
pub none_before : (start : Start) → outs start [] ≡ []
unfolding made made_from
none_before start = refl

-- what goes out of a new desk is what its start sends
pub outs_anew : (start : Start) (es : List Event) → outs_for (first_standing start) es ≡ outs start es
unfolding made
outs_anew start es = refl

made_on : (start : Start) (before es : List Event) → made start (before ++ es) ≡ made start before ++ made_from start.place (run start before) es
unfolding run made
made_on start before es = made_joined start.place (empty start) before es

outs_on : (start : Start) (before es : List Event) → outs start before ++ outs_for (standing_after start before) es ≡ outs start (before ++ es)
outs_on start before es =
    sym (map-append out_of (made start before) (made_from start.place (run start before) es))
    ∙ ap (λ (l : List Send). map out_of l) (sym (made_on start before es))

pub goes_on_law : GoesOnLaw
goes_on_law start before h got report on r =
    let es : List Event = events_handled h report in
    ap (λ (l : List Out). outs start before ++ l) (r.outs ∙ ap (λ (s : Standing). outs_for s es) on) ∙ outs_on start before es

pub life_goes_on_law : LifeGoesOnLaw
life_goes_on_law start before h got report serial ok small on r =
    let told = notices_in_all start before h report serial in
    let all : List Event = events_in_all before h report in
    subst (λ (sent : List Out). AreNotifies (its_tag h serial) told (notifies_with (its_tag h serial) sent)) (sym (goes_on_law start before h got report on r))
    (subst (λ (s : Standing). AreNotifies (tag_of s.place serial) told (notifies_with (tag_of s.place serial) (outs start all))) (sym on)
    (life_law start serial all ok small))

pub alone_goes_on_law : AloneGoesOnLaw
alone_goes_on_law start before h got report other serial x ok small on r born like apart =
    let all : List Event = events_in_all before h report in
    let told = notices other 1 (alone start other serial x (newest_first all)) in
    subst (λ (sent : List Out). AreNotifies (its_tag h serial) told (notifies_with (its_tag h serial) sent)) (sym (goes_on_law start before h got report on r))
    (subst (λ (s : Standing). AreNotifies (tag_of s.place serial) told (notifies_with (tag_of s.place serial) (outs start all))) (sym on)
    (outs_law start other serial x all ok small born like apart))
