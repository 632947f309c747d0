use Rattle.std.proofs.Common.{◌≡◌, true, ◌∙◌, sym, ap, subst}
use Rattle.std.specs.List.{All}
use Rattle.arguments.specs.declared.choices.Choices.{Choices}
use Rattle.plans.specs.Heard.{is_user, nonce_time}
use Rattle.plans.proofs.Heard.{asks_some}
use Rattle.plans.proofs.admitting.new_authentication.Goals as goal

pub returns-clause-asks : goal.returns-clause-asks
returns-clause-asks g c =
    let chosen = c.of-choices.ensures.choices in let further = c.in_ok-further.ensures in
    asks_some c.args.settings.now c.in-Some.path _ (sym c.in_ok-path.ensures ∙ c.in-Some.is) (record {
      users = c.in_ok-passwords.ensures.users;
      further = further;
      known = subst (All (λ pair. is_user c.in_ok-passwords.passwords pair.0 ≡ true)) (c.deref-2.ensures.value ∙ further) c.in_ok-check_users.ensures.known;
      time = c.in_ok-nonces.ensures.time ∙ ap nonce_time chosen;
      old_digest = ap (λ (choices : Choices). choices.old_digest) chosen;
      tag = c.in_ok-tag.ensures;
    })
