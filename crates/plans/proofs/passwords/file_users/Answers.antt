use Rattle.plans.proofs.passwords.file_users.Goals as goal

pub returns-clause-told : goal.returns-clause-told
returns-clause-told g c =
    let (file, taken) = c.in_ok-take_file.ensures.taken in
    (file, record { start = c.new-passwords.result; is_empty = record { realm = c.new-passwords.ensures.realm; unknown = c.new-passwords.ensures.empty }; taken = taken })
