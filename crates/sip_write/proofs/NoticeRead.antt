-- A NOTIFY to whoever sent a request that was read has its values in their grammars.
use Rattle.std.proofs.Common.{◌≡◌, ℕ, List, [], ◌∷◌, ◌⊎◌, Option, Some, None, inl, inr, sym, subst, ◌∙◌}
use Rattle.std.specs.Prelude.{All, IfSome, codes}
use Rattle.sip_text.specs.declared.field.Field.{Field}
use Rattle.sip_text.specs.declared.field.Field.TheVariants as field
use Rattle.sip_text.specs.declared.scan.Class.TheVariants as class
use Rattle.sip_text.specs.Grammar.{IsToken, IsWordNamed, Parameter}
use Rattle.event_headers.specs.Headers.{IsEvent, EventFits, IsEventValue}
use Rattle.event_headers.specs.Values.{EventValue}
use Rattle.sip_read.specs.declared.message.Party.{Party}
use Rattle.sip_read.specs.Addresses.{IsParty}
use Rattle.sip_read.specs.Calls.{IsCallId}
use Rattle.sip_read.specs.Message.{IsField, IsKept}
use Rattle.sip_write.specs.AnswerAgain.{IsPartyField}
use Rattle.sip_write.specs.NoticeRead.{NotifyToWhomWasReadIsReadAgain}
use Rattle.sip_write.specs.ReadAgain.{IsFieldText}
use Rattle.sip_write.proofs.NotifyRead.{reads_again}
use Rattle.sip_write.proofs.ReadValues.{read_in_grammar}

-- ---- the event

id_in_grammar : (ps : List Parameter) (id : Option (List ℕ)) → IsWordNamed class.Token (codes "id") ps id → IfSome id IsToken
id_in_grammar ps None is = tt
id_in_grammar ps (Some v) is = is.1

event_in_grammar : (vs : List (List ℕ)) (f : Field EventValue) (e : EventValue) → IsField (IsKept IsEvent EventFits) vs f → f ≡ field.Value e → IsEventValue e
event_in_grammar [] f e h is = absurd (let no : field.Absent ≡ field.Value e = sym h ∙ is in cc)
event_in_grammar (v ∷ []) field.Absent e h is = absurd h
event_in_grammar (v ∷ []) field.Bad e h is = absurd (cc)
event_in_grammar (v ∷ []) (field.Value x) e h is =
    let same : x ≡ e = cc in
    let said = h.0 in
    subst IsEventValue same (said.1.is_token, id_in_grammar said.0 x.id said.2)
event_in_grammar (v ∷ w ∷ vs) f e h is = absurd (let no : field.Bad ≡ field.Value e = sym h ∙ is in cc)

-- ---- the parties

bare_party : (p : Party) → p.tag ≡ None → IsPartyField p → IsPartyField (record { text = p.text; tag = None })
bare_party p none is = subst (λ (t : Option (List ℕ)). IsPartyField (record { text = p.text; tag = t })) none is

-- ---- the law

pub notify_to_read : NotifyToWhomWasReadIsReadAgain
notify_to_read bytes last r s n reads reads_last is small =
    let g = read_in_grammar bytes r reads in
    let h = read_in_grammar last s reads_last in
    let local : IsPartyField (record { text = r.head.to.text; tag = None }) = bare_party r.head.to is.first g.to in
    let event : IsEventValue n.event = by is.event in
    reads_again n r.head.from
    (record {
      target = h.contact n.target is.target;
      routes = subst (All IsFieldText) (sym is.routes) (λ k d lt. (g.record_routes k d lt).1);
      me = is.me;
      local = subst (λ (t : List ℕ). IsParty t (record { text = t; tag = None })) (sym is.local) local.0;
      local_text = subst IsFieldText (sym is.local) local.1;
      local_tag = is.local_tag;
      is_remote = subst (λ (t : List ℕ). IsParty t r.head.from) (sym is.remote) g.from.0;
      remote_text = subst IsFieldText (sym is.remote) g.from.1;
      call_id = subst IsCallId (sym is.call_id) g.call_id;
      number = is.number;
      event = event;
      state = is.state;
      content_type = is.content_type;
    })
    small where
      by : (r.event ≡ field.Value n.event) ⊎ IsEventValue n.event → IsEventValue n.event
      by (inl e) = event_in_grammar _ r.event n.event reads.event e
      by (inr e) = e
