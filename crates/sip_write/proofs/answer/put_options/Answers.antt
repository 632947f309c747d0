use Rattle.sip_write.proofs.Pages.{more_lines}
use Rattle.sip_write.proofs.answer.put_options.Goals as goal

pub returns : goal.returns
returns c =
    more_lines _ _ c.put_contact_of.ensures (more_lines _ _ c.put_seconds.ensures (more_lines _ _ c.put_seconds-2.ensures
    (more_lines _ _ c.put_list_of.ensures (more_lines _ _ c.put_list_of-2.ensures (more_lines _ _ c.put_list_of-3.ensures c.put_refer_sub.ensures)))))
