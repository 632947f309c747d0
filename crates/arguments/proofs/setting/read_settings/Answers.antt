use Rattle.std.proofs.Common.{◌≡◌, List, None, Some, Option, [], ◌∷◌, drop, ◌+◌, ◌≤◌, length, arith, subst, sym, ap, ◌∙◌}
use Rattle.std.proofs.lemmas.Result.{err_from_is_err_and}
use Rattle.arguments.specs.declared.flag.Flag.{Flag}
use Rattle.arguments.specs.declared.setting.Setting.{Setting}
use Rattle.arguments.specs.Reading.{flag_named, valued, alone, settings_from, with_front}
use Rattle.arguments.proofs.Words.{at_word, past_words, value_goes_on, word_goes_on, flag_goes_on, bad_value, bad_word, fails_too, at_the_end, waits_at_the_end}
use Rattle.arguments.proofs.setting.read_settings.Goals as goal
use Rattle.arguments.proofs.setting.read_settings.Goals.{in-Some+in_ok-setting-in-Some+in_ok-push-in-Some, in-None+in-Some-flag_named, in-None+in-None-flag_named+in_ok-other-in-None-flag_named+in_ok-push-in-None-flag_named}

pub returns-in_err-setting-in-Some : goal.returns-in_err-setting-in-Some
returns-in_err-setting-in-Some c =
    let f : Flag = c.in-Some.flag in
    let total = settings_from None c.args.words.now in
    let word = c.word-item.result in
    let rest = drop (c.loop-word.word-index + 1) c.args.words.now in
    let front : List Setting = c.loop-word.settings.items in
    let waits : c.loop-word.waiting ≡ Some f = (let a = c.take.ensures.value in let b = c.in-Some.is in cc) in
    let P : Option Flag → Type 0 = λ o. with_front front (settings_from o (word ∷ rest)) ≡ total in
    let so_far = subst P waits (at_word front c.loop-word.waiting c.args.words.now c.loop-word.word-index word total c.loop-word-test.true c.word-item.is c.loop-word.invariant) in
    let p = err_from_is_err_and c.from_residual.result c.from_residual.ensures.1 in
    rw (p.1, p.2) (fails_too c.in_err-setting-in-Some.field-0.0 (valued f word) total (λ e. bad_value front f word rest c.in_err-setting-in-Some.field-0.0 total e so_far) (rw c.as_str.ensures at c.in_err-setting-in-Some.ensures))

pub returns-in_err-other-in-None-flag_named : goal.returns-in_err-other-in-None-flag_named
returns-in_err-other-in-None-flag_named c =
    let total = settings_from None c.args.words.now in
    let word = c.word-item.result in
    let rest = drop (c.loop-word.word-index + 1) c.args.words.now in
    let front : List Setting = c.loop-word.settings.items in
    let waits : c.loop-word.waiting ≡ None = (let a = c.take.ensures.value in let b = c.in-None.is in cc) in
    let P : Option Flag → Type 0 = λ o. with_front front (settings_from o (word ∷ rest)) ≡ total in
    let so_far = subst P waits (at_word front c.loop-word.waiting c.args.words.now c.loop-word.word-index word total c.loop-word-test.true c.word-item.is c.loop-word.invariant) in
    let p = err_from_is_err_and c.from_residual-in_err-other-in-None-flag_named.result c.from_residual-in_err-other-in-None-flag_named.ensures.1 in
    rw (p.1, p.2) (fails_too c.in_err-other-in-None-flag_named.field-0.0 (alone word) total (λ e. bad_word front word rest c.in_err-other-in-None-flag_named.field-0.0 total (ap flag_named (sym c.as_str-in-None.ensures) ∙ c.in-None-flag_named.ensures) e so_far) c.in_err-other-in-None-flag_named.ensures)

pub loop-word-preserved : goal.loop-word-preserved
loop-word-preserved c =
    let total = settings_from None c.args.words.now in
    let word = c.word-item.result in
    let rest = drop (c.loop-word.word-index + 1) c.args.words.now in
    let front : List Setting = c.loop-word.settings.items in
    let P : Option Flag → Type 0 = λ o. with_front front (settings_from o (word ∷ rest)) ≡ total in
    let so_far = at_word front c.loop-word.waiting c.args.words.now c.loop-word.word-index word total c.loop-word-test.true c.word-item.is c.loop-word.invariant in
    elim c.match-take.branch [
      | in-Some+in_ok-setting-in-Some+in_ok-push-in-Some w ↦
          (let waits : c.loop-word.waiting ≡ Some w.in-Some.flag = (let a = c.take.ensures.value in let b = w.in-Some.is in cc) in
          let none = c.take.ensures.after in
          let more = w.in_ok-push-in-Some.ensures.items in
          rw (w.settings-is, w.waiting-is, none, more) (value_goes_on front w.in-Some.flag word rest w.in_ok-setting-in-Some.setting total (rw w.as_str.ensures at w.in_ok-setting-in-Some.ensures) (subst P waits so_far)))
      | in-None+in-Some-flag_named w ↦
          (let waits : c.loop-word.waiting ≡ None = (let a = c.take.ensures.value in let b = w.in-None.is in cc) in
          rw (w.settings-is, w.waiting-is) (flag_goes_on front word rest w.in-Some-flag_named.flag total (ap flag_named (sym w.as_str-in-None.ensures) ∙ w.in-Some-flag_named.ensures) (subst P waits so_far)))
      | in-None+in-None-flag_named+in_ok-other-in-None-flag_named+in_ok-push-in-None-flag_named w ↦
          (let waits : c.loop-word.waiting ≡ None = (let a = c.take.ensures.value in let b = w.in-None.is in cc) in
          let none = c.take.ensures.after in
          let more = w.in_ok-push-in-None-flag_named.ensures.items in
          rw (w.settings-is, w.waiting-is, none, more) (word_goes_on front word rest w.in_ok-other-in-None-flag_named.other total (ap flag_named (sym w.as_str-in-None.ensures) ∙ w.in-None-flag_named.ensures) w.in_ok-other-in-None-flag_named.ensures (subst P waits so_far)))
    ]

pub returns-in-Some-waiting : goal.returns-in-Some-waiting
returns-in-Some-waiting c =
    let total = settings_from None c.args.words.now in
    let front : List Setting = c.loop-word.settings.items in
    let high : length c.args.words.now ≤ c.loop-word.word-index = (let b = c.loop-word-test.false in omega arith) in
    let P : Option Flag → Type 0 = λ o. with_front front (settings_from o []) ≡ total in
    waits_at_the_end front c.in-Some-waiting.flag total
    (subst P c.in-Some-waiting.is (past_words front c.loop-word.waiting c.args.words.now c.loop-word.word-index total high c.loop-word.invariant))

pub returns-in-None-waiting : goal.returns-in-None-waiting
returns-in-None-waiting c =
    let total = settings_from None c.args.words.now in
    let front : List Setting = c.loop-word.settings.items in
    let high : length c.args.words.now ≤ c.loop-word.word-index = (let b = c.loop-word-test.false in omega arith) in
    let P : Option Flag → Type 0 = λ o. with_front front (settings_from o []) ≡ total in
    at_the_end front total (subst P c.in-None-waiting.is (past_words front c.loop-word.waiting c.args.words.now c.loop-word.word-index total high c.loop-word.invariant))
