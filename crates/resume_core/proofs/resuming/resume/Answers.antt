use Rattle.std.proofs.Common.{◌∙◌, inl, ℕ, List, sym, subst}
use Rattle.std.specs.Prelude.{Contains}
use Rattle.dl_disk.specs.Calls.{Stays}
use Rattle.payload_files.specs.Names.{IsOther, MakesFoldersOf}
use Rattle.payload_files.proofs.Keeping.{made_none}
use Rattle.resume_core.specs.Openings.{IsNoControl, is_compared}
use Rattle.resume_core.specs.Refusals.{open_refusal}
use Rattle.resume_core.proofs.Filed.{files_kept}
use Rattle.resume_core.proofs.Fitted.{fits_from, has_same, stretches_from, stretches_same}
use Rattle.resume_core.proofs.Moved.{disk_cause_moved, refuses_disk, refuses_store, plain_disk, plain_store, told_plain}
use Rattle.resume_core.proofs.Openings.{matches_same}
use Rattle.resume_core.proofs.Opens.{compared_listed, compared_matches, covers, covers_absent, covers_pieces, given_pieces, hashes_none, looked, looked_besides, looked_both, looked_for, looked_given, looked_sound, no_reason, opens_same, sound_matches, survey_stood, survey_whole, whole_besides, whole_given, whole_pieces, whole_sound}
use Rattle.resume_core.proofs.OverWhole.{whole_kept, whole_on}
use Rattle.resume_core.proofs.Surveys.{survey_same}
use Rattle.resume_core.proofs.resuming.resume.Goals as goal

pub returns-in_err-survey-clause-sound : goal.returns-in_err-survey-clause-sound
returns-in_err-survey-clause-sound g c told =
    let d = g.D.Disk in
    let want = c.args.want.now in
    let s0 = d.state c.args.disk.now in
    let s1 = d.state c.look_up.new.disk in
    (looked_sound want s0 s1 (looked (IsNoControl want) s0 s1 (c.look_up.ensures.looks told))).sound

pub returns-in_err-survey-clause-gives : goal.returns-in_err-survey-clause-gives
returns-in_err-survey-clause-gives g c told stood plain =
    let d = g.D.Disk in
    let want = c.args.want.now in
    let s0 = d.state c.args.disk.now in
    let s1 = d.state c.look_up.new.disk in
    looked_given want s0 s1 (looked (IsNoControl want) s0 s1 (c.look_up.ensures.looks told))

pub returns-in_err-survey-clause-pieces : goal.returns-in_err-survey-clause-pieces
returns-in_err-survey-clause-pieces g c told stood sound =
    let d = g.D.Disk in
    let want = c.args.want.now in
    let s0 = d.state c.args.disk.now in
    let s1 = d.state c.look_up.new.disk in
    given_pieces want s0 s1 (looked_given want s0 s1 (looked (IsNoControl want) s0 s1 (c.look_up.ensures.looks told)))

pub returns-in_err-survey-clause-whole : goal.returns-in_err-survey-clause-whole
returns-in_err-survey-clause-whole g c told lacks has =
    let d = g.D.Disk in
    let want = c.args.want.now in
    let s0 = d.state c.args.disk.now in
    let s1 = d.state c.look_up.new.disk in
    looked_given want s0 s1 (looked (IsNoControl want) s0 s1 (c.look_up.ensures.looks told))

pub opened_of-requires-clause-survey : goal.opened_of-requires-clause-survey
opened_of-requires-clause-survey g c told =
    let d = g.D.Disk in
    let want = c.args.want.now in
    let s0 = d.state c.args.disk.now in
    let s1 = d.state c.look_up.new.disk in
    survey_same want c.in_ok-survey.survey s0.seen s1.seen (c.look_up.ensures.looks told).stays.seen
    (c.in_ok-survey.ensures.survey told)

pub returns-in_err-opened-clause-refuses : goal.returns-in_err-opened-clause-refuses
returns-in_err-opened-clause-refuses g c told =
    refuses_store c.args.want.now (g.D.Disk.state c.args.disk.now).seen c.from_residual-in_err-opened.result
    c.in_err-opened.field-0.0 c.from_residual-in_err-opened.ensures.1

pub returns-in_err-opened-clause-refused : goal.returns-in_err-opened-clause-refused
returns-in_err-opened-clause-refused g c =
    let d = g.D.Disk in
    told_plain c.from_residual-in_err-opened.result _ _
    (λ told. plain_store c.from_residual-in_err-opened.result c.in_err-opened.field-0.0
    (λ err. Stays (d.state c.args.disk.now) (d.state c.opened_of.new.disk)) c.from_residual-in_err-opened.ensures.1)

pub returns-in_err-opened-clause-besides : goal.returns-in_err-opened-clause-besides
returns-in_err-opened-clause-besides g c told =
    let d = g.D.Disk in
    let want = c.args.want.now in
    let s0 = d.state c.args.disk.now in
    let s1 = d.state c.look_up.new.disk in
    let s2 = d.state c.opened_of.new.disk in
    let looks = looked_both (IsNoControl want) (IsOther want.dir want.layout) s0 s1 s2 (c.look_up.ensures.looks told)
    (c.opened_of.ensures.looks told) in
    looked_besides want s0 s2 looks

pub returns-in_err-opened-clause-sound : goal.returns-in_err-opened-clause-sound
returns-in_err-opened-clause-sound g c told =
    let d = g.D.Disk in
    let want = c.args.want.now in
    let s0 = d.state c.args.disk.now in
    let s1 = d.state c.look_up.new.disk in
    let s2 = d.state c.opened_of.new.disk in
    let looks = looked_both (IsNoControl want) (IsOther want.dir want.layout) s0 s1 s2 (c.look_up.ensures.looks told)
    (c.opened_of.ensures.looks told) in
    (looked_sound want s0 s2 looks).sound

pub returns-in_err-opened-clause-gives : goal.returns-in_err-opened-clause-gives
returns-in_err-opened-clause-gives g c told stood plain =
    let d = g.D.Disk in
    let want = c.args.want.now in
    let s0 = d.state c.args.disk.now in
    let s1 = d.state c.look_up.new.disk in
    let s2 = d.state c.opened_of.new.disk in
    let looks = looked_both (IsNoControl want) (IsOther want.dir want.layout) s0 s1 s2 (c.look_up.ensures.looks told)
    (c.opened_of.ensures.looks told) in
    looked_given want s0 s2 looks

pub returns-in_err-opened-clause-pieces : goal.returns-in_err-opened-clause-pieces
returns-in_err-opened-clause-pieces g c told stood sound =
    let d = g.D.Disk in
    let want = c.args.want.now in
    let s0 = d.state c.args.disk.now in
    let s1 = d.state c.look_up.new.disk in
    let s2 = d.state c.opened_of.new.disk in
    let looks = looked_both (IsNoControl want) (IsOther want.dir want.layout) s0 s1 s2 (c.look_up.ensures.looks told)
    (c.opened_of.ensures.looks told) in
    given_pieces want s0 s2 (looked_given want s0 s2 looks)

pub returns-in_err-opened-clause-whole : goal.returns-in_err-opened-clause-whole
returns-in_err-opened-clause-whole g c told lacks has =
    let d = g.D.Disk in
    let want = c.args.want.now in
    let s0 = d.state c.args.disk.now in
    let s1 = d.state c.look_up.new.disk in
    let s2 = d.state c.opened_of.new.disk in
    let looks = looked_both (IsNoControl want) (IsOther want.dir want.layout) s0 s1 s2 (c.look_up.ensures.looks told)
    (c.opened_of.ensures.looks told) in
    looked_given want s0 s2 looks

pub returns-in_err-opened-clause-unread : goal.returns-in_err-opened-clause-unread
returns-in_err-opened-clause-unread g c told stood plain name none =
    let d = g.D.Disk in
    let want = c.args.want.now in
    let s0 = d.state c.args.disk.now in
    let s1 = d.state c.look_up.new.disk in
    (c.opened_of.ensures.unread told (hashes_none want c.in_ok-survey.survey.control (is_compared want c.args.check)
    (survey_stood want c.in_ok-survey.survey s0.seen (c.in_ok-survey.ensures.survey told) stood) plain)).reads name tt
    ∙ (c.look_up.ensures.looks told).reads name none

pub write_opened-requires-clause-survey : goal.write_opened-requires-clause-survey
write_opened-requires-clause-survey g c told =
    let d = g.D.Disk in
    let want = c.args.want.now in
    let s0 = d.state c.args.disk.now in
    let s1 = d.state c.look_up.new.disk in
    let s2 = d.state c.opened_of.new.disk in
    let looks = looked_both (IsNoControl want) (IsOther want.dir want.layout) s0 s1 s2 (c.look_up.ensures.looks told)
    (c.opened_of.ensures.looks told) in
    survey_same want c.in_ok-survey.survey s0.seen s2.seen looks.stays.seen (c.in_ok-survey.ensures.survey told)

pub returns-in_err-write_opened-clause-besides : goal.returns-in_err-write_opened-clause-besides
returns-in_err-write_opened-clause-besides g c told =
    let d = g.D.Disk in
    let want = c.args.want.now in
    let s0 = d.state c.args.disk.now in
    let s1 = d.state c.look_up.new.disk in
    let s2 = d.state c.opened_of.new.disk in
    let looks = looked_both (IsNoControl want) (IsOther want.dir want.layout) s0 s1 s2 (c.look_up.ensures.looks told)
    (c.opened_of.ensures.looks told) in
    let s3 = d.state c.write_opened.new.disk in
    let opened = c.in_ok-opened.opened in
    whole_besides want s0 s2 s3 looks (c.write_opened.ensures.besides told)

pub returns-in_err-write_opened-clause-sound : goal.returns-in_err-write_opened-clause-sound
returns-in_err-write_opened-clause-sound g c told were =
    let d = g.D.Disk in
    let want = c.args.want.now in
    let s0 = d.state c.args.disk.now in
    let s1 = d.state c.look_up.new.disk in
    let s2 = d.state c.opened_of.new.disk in
    let looks = looked_both (IsNoControl want) (IsOther want.dir want.layout) s0 s1 s2 (c.look_up.ensures.looks told)
    (c.opened_of.ensures.looks told) in
    let s3 = d.state c.write_opened.new.disk in
    let opened = c.in_ok-opened.opened in
    let opens = opens_same want (is_compared want c.args.check) s1.seen s0.seen opened
    (λ name. sym ((c.look_up.ensures.looks told).stays.seen name)) (c.in_ok-opened.ensures.opened told) in
    (whole_sound want s0 s2 s3 looks (c.write_opened.ensures.besides told) opened
    (sound_matches want s0.seen opened (is_compared want c.args.check) opens (were s0.seen s0.own_image).0)
    (c.write_opened.ensures.sound told)).sound were

pub returns-in_err-write_opened-clause-gives : goal.returns-in_err-write_opened-clause-gives
returns-in_err-write_opened-clause-gives g c told stood plain =
    let d = g.D.Disk in
    let want = c.args.want.now in
    let s0 = d.state c.args.disk.now in
    let s1 = d.state c.look_up.new.disk in
    let s2 = d.state c.opened_of.new.disk in
    let looks = looked_both (IsNoControl want) (IsOther want.dir want.layout) s0 s1 s2 (c.look_up.ensures.looks told)
    (c.opened_of.ensures.looks told) in
    let s3 = d.state c.write_opened.new.disk in
    let opened = c.in_ok-opened.opened in
    let opens = opens_same want (is_compared want c.args.check) s1.seen s0.seen opened
    (λ name. sym ((c.look_up.ensures.looks told).stays.seen name)) (c.in_ok-opened.ensures.opened told) in
    whole_given want s0 s2 s3 looks (c.write_opened.ensures.besides told) opened
    (c.write_opened.ensures.gives told (inl (survey_stood want c.in_ok-survey.survey s0.seen
    (c.in_ok-survey.ensures.survey told) stood)))
    (covers want s0.seen opened (is_compared want c.args.check) plain opens)

pub returns-in_err-write_opened-clause-pieces : goal.returns-in_err-write_opened-clause-pieces
returns-in_err-write_opened-clause-pieces g c told stood were =
    let d = g.D.Disk in
    let want = c.args.want.now in
    let s0 = d.state c.args.disk.now in
    let s1 = d.state c.look_up.new.disk in
    let s2 = d.state c.opened_of.new.disk in
    let looks = looked_both (IsNoControl want) (IsOther want.dir want.layout) s0 s1 s2 (c.look_up.ensures.looks told)
    (c.opened_of.ensures.looks told) in
    let s3 = d.state c.write_opened.new.disk in
    let opened = c.in_ok-opened.opened in
    let opens = opens_same want (is_compared want c.args.check) s1.seen s0.seen opened
    (λ name. sym ((c.look_up.ensures.looks told).stays.seen name)) (c.in_ok-opened.ensures.opened told) in
    whole_pieces want s0 s2 s3 looks (c.write_opened.ensures.besides told) opened
    (c.write_opened.ensures.gives told (inl (survey_stood want c.in_ok-survey.survey s0.seen
    (c.in_ok-survey.ensures.survey told) stood)))
    (covers_pieces want s0.seen opened c.requires (is_compared want c.args.check)
    (compared_listed want c.args.check) opens
    (were s0.seen s0.own_image).0)

pub returns-in_err-write_opened-clause-whole : goal.returns-in_err-write_opened-clause-whole
returns-in_err-write_opened-clause-whole g c told lacks has =
    let d = g.D.Disk in
    let want = c.args.want.now in
    let s0 = d.state c.args.disk.now in
    let s1 = d.state c.look_up.new.disk in
    let s2 = d.state c.opened_of.new.disk in
    let looks = looked_both (IsNoControl want) (IsOther want.dir want.layout) s0 s1 s2 (c.look_up.ensures.looks told)
    (c.opened_of.ensures.looks told) in
    let s3 = d.state c.write_opened.new.disk in
    let opened = c.in_ok-opened.opened in
    let opens = opens_same want (is_compared want c.args.check) s1.seen s0.seen opened
    (λ name. sym ((c.look_up.ensures.looks told).stays.seen name)) (c.in_ok-opened.ensures.opened told) in
    whole_given want s0 s2 s3 looks (c.write_opened.ensures.besides told) opened
    (c.write_opened.ensures.gives told (survey_whole want c.in_ok-survey.survey s0.seen
    (c.in_ok-survey.ensures.survey told) has))
    (covers_absent want s0.seen opened lacks (is_compared want c.args.check) opens)

pub returns-in_err-write_opened-clause-unread : goal.returns-in_err-write_opened-clause-unread
returns-in_err-write_opened-clause-unread g c told stood plain name none =
    let d = g.D.Disk in
    let want = c.args.want.now in
    let s0 = d.state c.args.disk.now in
    let s1 = d.state c.look_up.new.disk in
    c.write_opened.ensures.reads told name
    ∙ (c.opened_of.ensures.unread told (hashes_none want c.in_ok-survey.survey.control (is_compared want c.args.check)
    (survey_stood want c.in_ok-survey.survey s0.seen (c.in_ok-survey.ensures.survey told) stood) plain)).reads name tt
    ∙ (c.look_up.ensures.looks told).reads name none

pub returns-in_err-write_opened-clause-stay : goal.returns-in_err-write_opened-clause-stay
returns-in_err-write_opened-clause-stay g c told folder has =
    let d = g.D.Disk in
    let want = c.args.want.now in
    let s0 = d.state c.args.disk.now in
    let s1 = d.state c.look_up.new.disk in
    c.write_opened.ensures.stay told folder
    (subst (λ (l : List (List ℕ)). Contains l folder)
    (sym ((c.opened_of.ensures.looks told).folders ∙ (c.look_up.ensures.looks told).folders)) has)

pub returns-clause-besides : goal.returns-clause-besides
returns-clause-besides g c told =
    let d = g.D.Disk in
    let want = c.args.want.now in
    let s0 = d.state c.args.disk.now in
    let s1 = d.state c.look_up.new.disk in
    let s2 = d.state c.opened_of.new.disk in
    let looks = looked_both (IsNoControl want) (IsOther want.dir want.layout) s0 s1 s2 (c.look_up.ensures.looks told)
    (c.opened_of.ensures.looks told) in
    let s3 = d.state c.write_opened.new.disk in
    let opened = c.in_ok-opened.opened in
    whole_besides want s0 s2 s3 looks (c.write_opened.ensures.besides told)

pub returns-clause-sound : goal.returns-clause-sound
returns-clause-sound g c told were =
    let d = g.D.Disk in
    let want = c.args.want.now in
    let s0 = d.state c.args.disk.now in
    let s1 = d.state c.look_up.new.disk in
    let s2 = d.state c.opened_of.new.disk in
    let looks = looked_both (IsNoControl want) (IsOther want.dir want.layout) s0 s1 s2 (c.look_up.ensures.looks told)
    (c.opened_of.ensures.looks told) in
    let s3 = d.state c.write_opened.new.disk in
    let opened = c.in_ok-opened.opened in
    let opens = opens_same want (is_compared want c.args.check) s1.seen s0.seen opened
    (λ name. sym ((c.look_up.ensures.looks told).stays.seen name)) (c.in_ok-opened.ensures.opened told) in
    (whole_sound want s0 s2 s3 looks (c.write_opened.ensures.besides told) opened
    (sound_matches want s0.seen opened (is_compared want c.args.check) opens (were s0.seen s0.own_image).0)
    (c.write_opened.ensures.sound told)).sound were

pub returns-clause-gives : goal.returns-clause-gives
returns-clause-gives g c told stood plain =
    let d = g.D.Disk in
    let want = c.args.want.now in
    let s0 = d.state c.args.disk.now in
    let s1 = d.state c.look_up.new.disk in
    let s2 = d.state c.opened_of.new.disk in
    let looks = looked_both (IsNoControl want) (IsOther want.dir want.layout) s0 s1 s2 (c.look_up.ensures.looks told)
    (c.opened_of.ensures.looks told) in
    let s3 = d.state c.write_opened.new.disk in
    let opened = c.in_ok-opened.opened in
    let opens = opens_same want (is_compared want c.args.check) s1.seen s0.seen opened
    (λ name. sym ((c.look_up.ensures.looks told).stays.seen name)) (c.in_ok-opened.ensures.opened told) in
    whole_given want s0 s2 s3 looks (c.write_opened.ensures.besides told) opened
    (c.write_opened.ensures.gives told (inl (survey_stood want c.in_ok-survey.survey s0.seen
    (c.in_ok-survey.ensures.survey told) stood)))
    (covers want s0.seen opened (is_compared want c.args.check) plain opens)

pub returns-clause-pieces : goal.returns-clause-pieces
returns-clause-pieces g c told stood were =
    let d = g.D.Disk in
    let want = c.args.want.now in
    let s0 = d.state c.args.disk.now in
    let s1 = d.state c.look_up.new.disk in
    let s2 = d.state c.opened_of.new.disk in
    let looks = looked_both (IsNoControl want) (IsOther want.dir want.layout) s0 s1 s2 (c.look_up.ensures.looks told)
    (c.opened_of.ensures.looks told) in
    let s3 = d.state c.write_opened.new.disk in
    let opened = c.in_ok-opened.opened in
    let opens = opens_same want (is_compared want c.args.check) s1.seen s0.seen opened
    (λ name. sym ((c.look_up.ensures.looks told).stays.seen name)) (c.in_ok-opened.ensures.opened told) in
    whole_pieces want s0 s2 s3 looks (c.write_opened.ensures.besides told) opened
    (c.write_opened.ensures.gives told (inl (survey_stood want c.in_ok-survey.survey s0.seen
    (c.in_ok-survey.ensures.survey told) stood)))
    (covers_pieces want s0.seen opened c.requires (is_compared want c.args.check)
    (compared_listed want c.args.check) opens
    (were s0.seen s0.own_image).0)

pub returns-clause-whole : goal.returns-clause-whole
returns-clause-whole g c told lacks has =
    let d = g.D.Disk in
    let want = c.args.want.now in
    let s0 = d.state c.args.disk.now in
    let s1 = d.state c.look_up.new.disk in
    let s2 = d.state c.opened_of.new.disk in
    let looks = looked_both (IsNoControl want) (IsOther want.dir want.layout) s0 s1 s2 (c.look_up.ensures.looks told)
    (c.opened_of.ensures.looks told) in
    let s3 = d.state c.write_opened.new.disk in
    let opened = c.in_ok-opened.opened in
    let opens = opens_same want (is_compared want c.args.check) s1.seen s0.seen opened
    (λ name. sym ((c.look_up.ensures.looks told).stays.seen name)) (c.in_ok-opened.ensures.opened told) in
    whole_given want s0 s2 s3 looks (c.write_opened.ensures.besides told) opened
    (c.write_opened.ensures.gives told (survey_whole want c.in_ok-survey.survey s0.seen
    (c.in_ok-survey.ensures.survey told) has))
    (covers_absent want s0.seen opened lacks (is_compared want c.args.check) opens)

pub returns-clause-unread : goal.returns-clause-unread
returns-clause-unread g c told stood plain name none =
    let d = g.D.Disk in
    let want = c.args.want.now in
    let s0 = d.state c.args.disk.now in
    let s1 = d.state c.look_up.new.disk in
    c.write_opened.ensures.reads told name
    ∙ (c.opened_of.ensures.unread told (hashes_none want c.in_ok-survey.survey.control (is_compared want c.args.check)
    (survey_stood want c.in_ok-survey.survey s0.seen (c.in_ok-survey.ensures.survey told) stood) plain)).reads name tt
    ∙ (c.look_up.ensures.looks told).reads name none

pub returns-clause-stay : goal.returns-clause-stay
returns-clause-stay g c told folder has =
    let d = g.D.Disk in
    let want = c.args.want.now in
    let s0 = d.state c.args.disk.now in
    let s1 = d.state c.look_up.new.disk in
    c.write_opened.ensures.stay told folder
    (subst (λ (l : List (List ℕ)). Contains l folder)
    (sym ((c.opened_of.ensures.looks told).folders ∙ (c.look_up.ensures.looks told).folders)) has)

pub returns-clause-reads : goal.returns-clause-reads
returns-clause-reads g c told name other none =
    let d = g.D.Disk in
    let want = c.args.want.now in
    let s0 = d.state c.args.disk.now in
    let s1 = d.state c.look_up.new.disk in
    c.write_opened.ensures.reads told name
    ∙ (c.opened_of.ensures.looks told).reads name other
    ∙ (c.look_up.ensures.looks told).reads name none

pub returns-in_err-write_opened-clause-refuses : goal.returns-in_err-write_opened-clause-refuses
returns-in_err-write_opened-clause-refuses g c told =
    refuses_disk c.args.want.now (g.D.Disk.state c.args.disk.now).seen c.from_residual-in_err-write_opened.result
    c.in_err-write_opened.field-0.0 c.from_residual-in_err-write_opened.ensures.1

pub returns-in_err-write_opened-clause-refused : goal.returns-in_err-write_opened-clause-refused
returns-in_err-write_opened-clause-refused g c =
    let d = g.D.Disk in
    told_plain c.from_residual-in_err-write_opened.result _ _
    (λ told. plain_disk c.from_residual-in_err-write_opened.result c.in_err-write_opened.field-0.0
    (λ err. Stays (d.state c.args.disk.now) (d.state c.write_opened.new.disk))
    c.from_residual-in_err-write_opened.ensures.1)

pub returns-in_err-write_opened-clause-cause : goal.returns-in_err-write_opened-clause-cause
returns-in_err-write_opened-clause-cause g c =
    disk_cause_moved _ _ _ c.in_err-write_opened.field-0.0 c.from_residual-in_err-write_opened.result
    c.in_err-write_opened.ensures.cause
    (c.in_ok-opened.ensures.cause.done ∙ c.in_ok-survey.ensures.cause.done)
    c.from_residual-in_err-write_opened.ensures.1

pub returns-clause-opened : goal.returns-clause-opened
returns-clause-opened g c told =
    let d = g.D.Disk in
    let want = c.args.want.now in
    let s0 = d.state c.args.disk.now in
    let s1 = d.state c.look_up.new.disk in
    let opened = c.in_ok-opened.opened in
    let opens = opens_same want (is_compared want c.args.check) s1.seen s0.seen opened
    (λ name. sym ((c.look_up.ensures.looks told).stays.seen name)) (c.in_ok-opened.ensures.opened told) in
    opens

pub returns-clause-fits : goal.returns-clause-fits
returns-clause-fits g c told =
    let d = g.D.Disk in
    let want = c.args.want.now in
    let s0 = d.state c.args.disk.now in
    let s1 = d.state c.look_up.new.disk in
    let s2 = d.state c.opened_of.new.disk in
    let looks = looked_both (IsNoControl want) (IsOther want.dir want.layout) s0 s1 s2 (c.look_up.ensures.looks told)
    (c.opened_of.ensures.looks told) in
    let s3 = d.state c.write_opened.new.disk in
    fits_from want s0.seen s2.seen s3.seen (files_kept want s0.seen s2.seen looks.stays.seen)
    (c.in_ok-write_opened.ensures.kept told)

pub returns-clause-compared : goal.returns-clause-compared
returns-clause-compared g c told is =
    let d = g.D.Disk in
    let want = c.args.want.now in
    let s0 = d.state c.args.disk.now in
    let s1 = d.state c.look_up.new.disk in
    let s2 = d.state c.opened_of.new.disk in
    let looks = looked_both (IsNoControl want) (IsOther want.dir want.layout) s0 s1 s2 (c.look_up.ensures.looks told)
    (c.opened_of.ensures.looks told) in
    let s3 = d.state c.write_opened.new.disk in
    let opened = c.in_ok-opened.opened in
    let opens = opens_same want (is_compared want c.args.check) s1.seen s0.seen opened
    (λ name. sym ((c.look_up.ensures.looks told).stays.seen name)) (c.in_ok-opened.ensures.opened told) in
    c.in_ok-write_opened.ensures.verified told
    (matches_same want opened s0.seen s2.seen looks.stays.seen
    (compared_matches want s0.seen opened (is_compared want c.args.check) is opens))

pub returns-in_err-survey-clause-refusable : goal.returns-in_err-survey-clause-refusable
returns-in_err-survey-clause-refusable g c told reason each =
    let d = g.D.Disk in
    let want = c.args.want.now in
    let s0 = d.state c.args.disk.now in
    let s1 = d.state c.look_up.new.disk in
    looked_for each s0 s1 (looked (IsNoControl want) s0 s1 (c.look_up.ensures.looks told))

pub returns-in_err-survey-clause-over_whole : goal.returns-in_err-survey-clause-over_whole
returns-in_err-survey-clause-over_whole g c told has =
    let d = g.D.Disk in
    let want = c.args.want.now in
    let s0 = d.state c.args.disk.now in
    let s1 = d.state c.look_up.new.disk in
    whole_kept want (is_compared want c.args.check) s0 s1
    (looked_for want s0 s1 (looked (IsNoControl want) s0 s1 (c.look_up.ensures.looks told)))

pub returns-in_err-opened-clause-refusable : goal.returns-in_err-opened-clause-refusable
returns-in_err-opened-clause-refusable g c told reason each =
    let d = g.D.Disk in
    let want = c.args.want.now in
    let s0 = d.state c.args.disk.now in
    let s1 = d.state c.look_up.new.disk in
    let s2 = d.state c.opened_of.new.disk in
    let looks = looked_both (IsNoControl want) (IsOther want.dir want.layout) s0 s1 s2 (c.look_up.ensures.looks told)
    (c.opened_of.ensures.looks told) in
    looked_for each s0 s2 looks

pub returns-in_err-opened-clause-over_whole : goal.returns-in_err-opened-clause-over_whole
returns-in_err-opened-clause-over_whole g c told has =
    let d = g.D.Disk in
    let want = c.args.want.now in
    let s0 = d.state c.args.disk.now in
    let s1 = d.state c.look_up.new.disk in
    let s2 = d.state c.opened_of.new.disk in
    let looks = looked_both (IsNoControl want) (IsOther want.dir want.layout) s0 s1 s2 (c.look_up.ensures.looks told)
    (c.opened_of.ensures.looks told) in
    whole_kept want (is_compared want c.args.check) s0 s2 (looked_for want s0 s2 looks)

pub returns-in_err-write_opened-clause-refusable : goal.returns-in_err-write_opened-clause-refusable
returns-in_err-write_opened-clause-refusable g c told reason each =
    no_reason (open_refusal c.args.want.now (g.D.Disk.state c.args.disk.now).seen) reason
    (c.in_ok-survey.ensures.refuses told).opened

pub returns-in_err-write_opened-clause-over_whole : goal.returns-in_err-write_opened-clause-over_whole
returns-in_err-write_opened-clause-over_whole g c told has =
    let d = g.D.Disk in
    let want = c.args.want.now in
    let s0 = d.state c.args.disk.now in
    let s1 = d.state c.look_up.new.disk in
    let s2 = d.state c.opened_of.new.disk in
    let looks = looked_both (IsNoControl want) (IsOther want.dir want.layout) s0 s1 s2 (c.look_up.ensures.looks told)
    (c.opened_of.ensures.looks told) in
    let s3 = d.state c.write_opened.new.disk in
    let opened = c.in_ok-opened.opened in
    let keeps = looked_for want s0 s2 looks in
    let just = opens_same want (is_compared want c.args.check) s1.seen s2.seen opened
    (c.opened_of.ensures.looks told).stays.seen (c.in_ok-opened.ensures.opened told) in
    whole_on want (is_compared want c.args.check) s0 s2 s3 keeps (c.write_opened.ensures.besides told)
    (c.write_opened.ensures.over_whole told (has_same want s0.seen s2.seen keeps.seen.files has)
    (is_compared want c.args.check) just)

pub returns-clause-refusable : goal.returns-clause-refusable
returns-clause-refusable g c told reason each =
    no_reason (open_refusal c.args.want.now (g.D.Disk.state c.args.disk.now).seen) reason
    (c.in_ok-survey.ensures.refuses told).opened

pub returns-clause-over_whole : goal.returns-clause-over_whole
returns-clause-over_whole g c told has =
    let d = g.D.Disk in
    let want = c.args.want.now in
    let s0 = d.state c.args.disk.now in
    let s1 = d.state c.look_up.new.disk in
    let s2 = d.state c.opened_of.new.disk in
    let looks = looked_both (IsNoControl want) (IsOther want.dir want.layout) s0 s1 s2 (c.look_up.ensures.looks told)
    (c.opened_of.ensures.looks told) in
    let s3 = d.state c.write_opened.new.disk in
    let opened = c.in_ok-opened.opened in
    let keeps = looked_for want s0 s2 looks in
    let just = opens_same want (is_compared want c.args.check) s1.seen s2.seen opened
    (c.opened_of.ensures.looks told).stays.seen (c.in_ok-opened.ensures.opened told) in
    whole_on want (is_compared want c.args.check) s0 s2 s3 keeps (c.write_opened.ensures.besides told)
    (c.write_opened.ensures.over_whole told (has_same want s0.seen s2.seen keeps.seen.files has)
    (is_compared want c.args.check) just)

pub returns-in_err-survey-clause-only : goal.returns-in_err-survey-clause-only
returns-in_err-survey-clause-only g c told =
    let d = g.D.Disk in
    made_none c.args.want.now.dir c.args.want.now.layout (d.state c.args.disk.now).folders
    (d.state c.look_up.new.disk).folders (c.look_up.ensures.looks told).folders

pub returns-in_err-opened-clause-only : goal.returns-in_err-opened-clause-only
returns-in_err-opened-clause-only g c told =
    let d = g.D.Disk in
    made_none c.args.want.now.dir c.args.want.now.layout (d.state c.args.disk.now).folders
    (d.state c.opened_of.new.disk).folders
    ((c.opened_of.ensures.looks told).folders ∙ (c.look_up.ensures.looks told).folders)

pub returns-in_err-write_opened-clause-only : goal.returns-in_err-write_opened-clause-only
returns-in_err-write_opened-clause-only g c told =
    let want = c.args.want.now in
    let made = (g.D.Disk.state c.write_opened.new.disk).folders in
    subst (λ (l : List (List ℕ)). MakesFoldersOf want.dir want.layout l made)
    ((c.opened_of.ensures.looks told).folders ∙ (c.look_up.ensures.looks told).folders)
    (c.write_opened.ensures.only told)

pub returns-clause-only : goal.returns-clause-only
returns-clause-only g c told =
    let want = c.args.want.now in
    let made = (g.D.Disk.state c.write_opened.new.disk).folders in
    subst (λ (l : List (List ℕ)). MakesFoldersOf want.dir want.layout l made)
    ((c.opened_of.ensures.looks told).folders ∙ (c.look_up.ensures.looks told).folders)
    (c.write_opened.ensures.only told)

pub returns-in_err-survey-clause-stretches : goal.returns-in_err-survey-clause-stretches
returns-in_err-survey-clause-stretches g c told =
    let d = g.D.Disk in
    let want = c.args.want.now in
    let s0 = d.state c.args.disk.now in
    let s1 = d.state c.look_up.new.disk in
    stretches_same want s0.seen s1.seen (files_kept want s0.seen s1.seen (c.look_up.ensures.looks told).stays.seen)

pub returns-in_err-opened-clause-stretches : goal.returns-in_err-opened-clause-stretches
returns-in_err-opened-clause-stretches g c told =
    let d = g.D.Disk in
    let want = c.args.want.now in
    let s0 = d.state c.args.disk.now in
    let s2 = d.state c.opened_of.new.disk in
    let looks = looked_both (IsNoControl want) (IsOther want.dir want.layout) s0 (d.state c.look_up.new.disk) s2
    (c.look_up.ensures.looks told) (c.opened_of.ensures.looks told) in
    stretches_same want s0.seen s2.seen (files_kept want s0.seen s2.seen looks.stays.seen)

pub returns-in_err-write_opened-clause-stretches : goal.returns-in_err-write_opened-clause-stretches
returns-in_err-write_opened-clause-stretches g c told =
    let d = g.D.Disk in
    let want = c.args.want.now in
    let s0 = d.state c.args.disk.now in
    let s2 = d.state c.opened_of.new.disk in
    let looks = looked_both (IsNoControl want) (IsOther want.dir want.layout) s0 (d.state c.look_up.new.disk) s2
    (c.look_up.ensures.looks told) (c.opened_of.ensures.looks told) in
    stretches_from want s0.seen s2.seen (d.state c.write_opened.new.disk).seen
    (files_kept want s0.seen s2.seen looks.stays.seen) (c.write_opened.ensures.stretches told)

pub returns-clause-stretches : goal.returns-clause-stretches
returns-clause-stretches g c told =
    let d = g.D.Disk in
    let want = c.args.want.now in
    let s0 = d.state c.args.disk.now in
    let s2 = d.state c.opened_of.new.disk in
    let looks = looked_both (IsNoControl want) (IsOther want.dir want.layout) s0 (d.state c.look_up.new.disk) s2
    (c.look_up.ensures.looks told) (c.opened_of.ensures.looks told) in
    stretches_from want s0.seen s2.seen (d.state c.write_opened.new.disk).seen
    (files_kept want s0.seen s2.seen looks.stays.seen) (c.write_opened.ensures.stretches told)
