use Rattle.std.proofs.Common.{◌≡◌, ◌+◌, [], ◌∷◌, ◌++◌, length, take, refl, sym, ap, ◌∙◌}
use Rattle.std.proofs.lemmas.List.{take_more}
use Rattle.std.proofs.lemmas.Option.{slice_get_read}
use Rattle.std.proofs.lemmas.Result.{err_from_is_err_and}
use Rattle.plans.proofs.Named.{named-push}
use Rattle.plans.proofs.Refused.{memory_of_setting}
use Rattle.plans.proofs.mailboxes.named_mailboxes.Goals as goal

pub loop-setting-preserved : goal.loop-setting-preserved
loop-setting-preserved g c =
    let at = c.loop-setting.setting-index in let settings = c.args.settings.now in let setting = c.setting-item.result in
    let past = take at settings in
    let more : take (at + 1) settings ≡ past ++ setting ∷ [] =
    take_more settings at setting c.loop-setting-test.true ∙ ap (λ s. past ++ s ∷ []) (sym c.setting-item.is) in
    let items = c.in_ok-append.ensures.items in
    rw (more, items) (named-push past setting c.loop-setting.names.items c.in_ok-more.more.items c.loop-setting.invariant c.in_ok-more.ensures.names)

pub returns-in_err-more-clause-refused : goal.returns-in_err-more-clause-refused
returns-in_err-more-clause-refused g c =
    let settings = c.args.settings.now in let setting = c.setting-item.result in let at = c.loop-setting.setting-index in
    let stands = slice_get_read settings (length settings) at setting refl c.loop-setting-test.true c.setting-item.is in
    let p = err_from_is_err_and c.from_residual.result c.from_residual.ensures.1 in
    rw (p.1, p.2) (at, setting, stands, c.in_err-more.ensures.refused)

pub returns-in_err-append-clause-refused : goal.returns-in_err-append-clause-refused
returns-in_err-append-clause-refused g c =
    let settings = c.args.settings.now in let setting = c.setting-item.result in let at = c.loop-setting.setting-index in
    let stands = slice_get_read settings (length settings) at setting refl c.loop-setting-test.true c.setting-item.is in
    let p = err_from_is_err_and c.from_residual-in_err-append.result c.from_residual-in_err-append.ensures.1 in
    rw p.1 (at, setting, stands, memory_of_setting setting p.0 p.2)
