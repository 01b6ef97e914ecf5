-- A connection goes on, or ends.
use Rattle.std.proofs.Common.{◌≡◌, ℕ, List, [], ◌∷◌, ◌++◌, append_assoc, append-nil, Bool, true, false, drop, refl, ap, sym, ◌∙◌, subst, arith}
use Rattle.std.specs.Prelude.{IsTrue, Option, Some, None}
use Rattle.dl_disk.specs.Files.{Files}
use Rattle.dl_disk.specs.declared.disk.Disk.{Ghosts as DiskSays}
use Rattle.door_source.specs.declared.Doors.{Ghosts as DoorSays}
use Rattle.http_heads.specs.AskHeads.{IsAskUnfinished}
use Rattle.origin_replies.specs.Askings.{Asking, AskingsEnd, AskingsEndWithLast, AskingsGoOn, AskingsTakeMore, AreAskings, AreFrontAskings, HasNoAsking, IsOneAsking, asked, bad, is_last_asking, reply_text}
use Rattle.origin_replies.specs.Replies.{head_of_reply}
use Rattle.origin_replies.specs.declared.reply.Reply.TheVariants.{BadRequest}
use Rattle.turn_desk.specs.Laws.{NoTurnsChangeNothing, TurnsAddUp}
use Rattle.range_origin.specs.Answers.{once}
use Rattle.range_origin.specs.Conversations.{GoesOn, HasGoneOn, HasReceived, HasTalked, HasTalkedToEnd, Reading, TalkAt, files_of, fresh_reading, talk_at}
use Rattle.range_origin.specs.Ends.{CausesVisitEnd, disk_failed_if}
use Rattle.range_origin.specs.Shelves.{AsksFolder}
use Rattle.range_origin.specs.Talking.{Grows, HasSent, IsBreak, IsSendEnd, OriginAt, SendsText, ShelfSight, files_below, origin_at, reads_failed}
use Rattle.range_origin.specs.Visits.{Answered, AnswersFirst, AnswersUntil, AreFirstAskings, AreTurnsFor, answered, askings_in, origin_text}
use Rattle.range_origin.specs.declared.ends.VisitEnd.{VisitEnd}
use Rattle.range_origin.specs.declared.ends.VisitEnd.TheVariants.{AtItsEnd, HungUp, Failed, DiskFailed, Cut, Starved}
use Rattle.range_origin.proofs.Growing.{grows_both, grows_none, grows_then_sent, grows_weaker}
use Rattle.range_origin.proofs.SentTexts.{break_by_call, no_disk_failure, sent_text}
use Rattle.range_origin.proofs.Turning.{reads-append, took_none}
use Rattle.range_origin.proofs.Visiting.{askings_behind, first_of_front, first_with_next, text_behind, turns_behind}

-- ---- ends

none_unfinished : (bytes : List ℕ) → IsAskUnfinished bytes → HasNoAsking bytes
none_unfinished bytes is (asked head) used one = is.none one.text one.rest one.reads
none_unfinished bytes is bad used one = one.0.no_front is

until_first : (known : Bool) (files : Files) (end : VisitEnd) (answers : List Answered) (received sent : List ℕ)
    → IsBreak (Some end) → AnswersFirst known files answers received sent → AnswersUntil known files end answers received sent
until_first known files AtItsEnd answers received sent is first = absurd is
until_first known files HungUp answers received sent is first = absurd is
until_first known files Failed answers received sent is first = first
until_first known files DiskFailed answers received sent is first = first
until_first known files Cut answers received sent is first = first
until_first known files Starved answers received sent is first = first

not_over : (end : VisitEnd) → IsBreak (Some end) → end ≡ AtItsEnd → ⊥
not_over end is same = subst (λ one. IsBreak (Some one)) same is

not_cut : (end : VisitEnd) → IsSendEnd (Some end) → end ≡ Cut → ⊥
not_cut end is same = subst (λ one. IsSendEnd (Some one)) same is

behind_calm : (end : VisitEnd) (a b c : ℕ) → b ≡ a → CausesVisitEnd end b c → CausesVisitEnd end a c
behind_calm end a b c same cause = subst (λ n. CausesVisitEnd end n c) same cause

module _ {D T A : Type 0} (sight : T → ShelfSight D) (disk : DiskSays D) (doors : DoorSays A) where
  pub talks_none : NoTurnsChangeNothing (AsksFolder disk) → (desk : T) (door : A)
      → HasTalked sight disk doors [] (origin_at desk door) (talk_at desk door fresh_reading)
  talks_none none desk door = record {
    received = [];
    sent = [];
    askings = refl;
    sent_is = λ tells. refl;
    told = λ tells. grows_weaker ⊥ (false ≡ true) [] [] (doors.state door) (doors.state door) (λ no. cc) (grows_none (doors.state door));
    faults = refl;
    mine = [];
    went = none (sight desk);
    looks = refl;
    reads = refl;
  }

  -- ---- more came

  pub hears : AskingsTakeMore → (answers : List Answered) (start : OriginAt T A) (desk : T) (door door' : A) (was now : Reading)
      → HasReceived doors door was door' now None → HasTalked sight disk doors answers start (talk_at desk door was)
      → HasTalked sight disk doors answers start (talk_at desk door' now)
  hears more answers start desk door door' was now came talked =
      let heard = came.1 in
      let silent = append-nil talked.sent in
      record {
        received = talked.received ++ came.0;
        sent = talked.sent;
        askings =
            subst (AreFrontAskings (talked.received ++ came.0) (askings_in answers)) (sym came.2)
            (more talked.received (askings_in answers) was.unread came.0 talked.askings);
        sent_is = talked.sent_is;
        told = λ tells.
            subst (λ sent. Grows (now.is_over ≡ true) (talked.received ++ came.0) sent (doors.state start.door) (doors.state door')) silent
            (grows_both (now.is_over ≡ true) talked.received talked.sent came.0 [] (doors.state start.door) (doors.state door)
            (doors.state door')
            (grows_weaker (was.is_over ≡ true) ⊥ talked.received talked.sent (doors.state start.door) (doors.state door) (λ no. absurd no) (talked.told tells))
            (heard.told tells));
        faults = heard.cause ∙ talked.faults;
        mine = talked.mine;
        went = talked.went;
        looks = talked.looks;
        reads = talked.reads;
      }

  -- .. or a call of the door ended it
  pub hears_end : AskingsTakeMore → (answers : List Answered) (start : OriginAt T A) (desk : T) (door door' : A) (was now : Reading) (end : VisitEnd)
      → HasReceived doors door was door' now (Some end) → HasTalked sight disk doors answers start (talk_at desk door was)
      → HasTalkedToEnd sight disk doors answers end start (origin_at desk door')
  hears_end more answers start desk door door' was now end came talked =
      let heard = came.1 in
      let broke = break_by_call (Some end) heard.kind in
      let none = no_disk_failure (Some end) heard.kind in
      let reads = talked.reads in
      record {
        received = talked.received ++ came.0;
        sent = talked.sent;
        answers_are =
            until_first disk.tells (files_of sight disk doors start) end answers (talked.received ++ came.0) talked.sent broke
            (record {
              askings = first_of_front (talked.received ++ came.0) (askings_in answers) (was.unread ++ came.0)
                  (more talked.received (askings_in answers) was.unread came.0 talked.askings);
              rest = [];
              front = λ tells. sym (talked.sent_is tells) ∙ sym (append-nil talked.sent);
            });
        uncut = λ tells same. not_cut end heard.kind same;
        told = λ tells.
            let silent = append-nil talked.sent in
            subst (λ sent. Grows (end ≡ AtItsEnd) (talked.received ++ came.0) sent (doors.state start.door) (doors.state door')) silent
            (grows_both (end ≡ AtItsEnd) talked.received talked.sent came.0 [] (doors.state start.door) (doors.state door)
            (doors.state door')
            (grows_weaker (was.is_over ≡ true) ⊥ talked.received talked.sent (doors.state start.door) (doors.state door) (λ no. absurd no) (talked.told tells))
            (grows_weaker (false ≡ true) (end ≡ AtItsEnd) came.0 [] (doors.state door) (doors.state door') (λ same. absurd (not_over end broke same))
            (heard.told tells)));
        cause = behind_calm end (doors.faults start.door) (doors.faults door) (doors.faults door') talked.faults heard.cause;
        mine = talked.mine;
        went = talked.went;
        turns = record { looks = talked.looks; reads = omega (arith, reads, none) };
      }

  -- ---- nothing more is read

  pub ends_here : AskingsEnd → (answers : List Answered) (start : OriginAt T A) (desk : T) (door : A) (reading : Reading)
      → IsAskUnfinished reading.unread → reading.is_over ≡ true
      → HasTalked sight disk doors answers start (talk_at desk door reading)
      → HasTalkedToEnd sight disk doors answers AtItsEnd start (origin_at desk door)
  ends_here ends answers start desk door reading is over talked = record {
    received = talked.received;
    sent = talked.sent;
    answers_are = record {
      askings = ends talked.received (askings_in answers) reading.unread talked.askings (none_unfinished reading.unread is);
      sent_is = talked.sent_is;
    };
    uncut = λ tells same. at_end_uncut same;
    told = λ tells.
        grows_weaker (reading.is_over ≡ true) (AtItsEnd ≡ AtItsEnd) talked.received talked.sent (doors.state start.door) (doors.state door)
        (λ same. over) (talked.told tells);
    cause = talked.faults;
    mine = talked.mine;
    went = talked.went;
    turns = record { looks = talked.looks; reads = talked.reads };
  }
    where
      at_end_uncut : AtItsEnd ≡ Cut → ⊥
      at_end_uncut e = cc

  pub starves : (answers : List Answered) (start : OriginAt T A) (desk : T) (door : A) (reading : Reading)
      → HasTalked sight disk doors answers start (talk_at desk door reading)
      → HasTalkedToEnd sight disk doors answers Starved start (origin_at desk door)
  starves answers start desk door reading talked = record {
    received = talked.received;
    sent = talked.sent;
    answers_are = record {
      askings = first_of_front talked.received (askings_in answers) reading.unread talked.askings;
      rest = [];
      front = λ tells. sym (talked.sent_is tells) ∙ sym (append-nil talked.sent);
    };
    uncut = λ tells same. not_cut Starved tt same;
    told = λ tells.
        grows_weaker (reading.is_over ≡ true) (Starved ≡ AtItsEnd) talked.received talked.sent (doors.state start.door) (doors.state door)
        (λ same. absurd (not_over Starved tt same)) (talked.told tells);
    cause = talked.faults;
    mine = talked.mine;
    went = talked.went;
    turns = record { looks = talked.looks; reads = talked.reads };
  }

  -- ---- a request is answered

  -- the files below the folder stay
  files_at : (answers : List Answered) (start : OriginAt T A) (b : TalkAt T A) → HasTalked sight disk doors answers start b
      → files_of sight disk doors b.place ≡ files_of sight disk doors start
  files_at answers start b talked = ap (λ given name. files_below disk given name) talked.went.given

  -- what is sent behind the replies so far
  sent_behind : (answers : List Answered) (start : OriginAt T A) (a : TalkAt T A) (asking : Asking) (fault : Bool) (end : Option VisitEnd)
      (c : OriginAt T A) (talked : HasTalked sight disk doors answers start a)
      → (sends : SendsText sight disk doors (reply_text (files_of sight disk doors a.place) asking fault) (once fault) end a.place c)
      → IsTrue disk.tells
      → origin_text (files_of sight disk doors start) (answers ++ answered asking fault ∷ []) ≡ (talked.sent ++ sends.part) ++ sends.rest
  sent_behind answers start a asking fault end c talked sends tells =
      text_behind (files_of sight disk doors start) answers (answered asking fault)
      ∙ ((λ i.
      sym (talked.sent_is tells) i ++ (ap (λ files. reply_text files asking fault) (sym (files_at answers start a talked)) ∙ sends.front tells) i)
      ∙ sym (append_assoc talked.sent sends.part sends.rest))

  mine_behind : (answers : List Answered) (start : OriginAt T A) (a : TalkAt T A) (asking : Asking) (fault : Bool) (reads : ℕ)
      (c : OriginAt T A) (text : List ℕ) (end : Option VisitEnd) (talked : HasTalked sight disk doors answers start a)
      → (sends : SendsText sight disk doors text (once fault) end a.place c)
      → AreTurnsFor (answers ++ answered asking fault ∷ []) (talked.mine ++ sends.took.mine)
      × (reads_failed (talked.mine ++ sends.took.mine) ≡ disk_failed_if end)
  mine_behind answers start a asking fault reads c text end talked sends =
      let first = talked.reads in
      let then = sends.took.reads_are in
      let both = reads-append talked.mine sends.took.mine in (
        turns_behind answers (answered asking fault) talked.mine sends.took.mine talked.looks sends.took.looks_are,
        omega (arith, first, then, both),
      )

  pub answers_more : AskingsGoOn → TurnsAddUp (AsksFolder disk) → (answers : List Answered) (start : OriginAt T A) (a : TalkAt T A)
      (asking : Asking) (used : ℕ) (fault : Bool) (c : OriginAt T A) (now : Reading) → IsOneAsking a.reading.unread asking used
      → is_last_asking asking ≡ false → now.unread ≡ drop used a.reading.unread → now.is_over ≡ a.reading.is_over
      → HasTalked sight disk doors answers start a
      → SendsText sight disk doors (reply_text (files_of sight disk doors a.place) asking fault) (once fault) None a.place c
      → HasTalked sight disk doors (answers ++ answered asking fault ∷ []) start (record { place = c; reading = now })
  answers_more on add answers start a asking used fault c now is more left over talked sends =
      let its = mine_behind answers start a asking fault 0 c _ None talked sends in
      record {
        received = talked.received;
        sent = talked.sent ++ sends.part;
        askings =
            subst (λ askings. AreFrontAskings talked.received askings now.unread) (sym (askings_behind answers (answered asking fault)))
            (subst (λ unread. AreFrontAskings talked.received (askings_in answers ++ asking ∷ []) unread) (sym left)
            (on talked.received (askings_in answers) a.reading.unread asking used talked.askings is more));
        sent_is = λ tells.
            sym (sent_behind answers start a asking fault None c talked sends tells
            ∙ (ap (λ rest. (talked.sent ++ sends.part) ++ rest) (sends.whole tells refl) ∙ append-nil (talked.sent ++ sends.part)));
        told = λ tells.
            grows_then_sent (now.is_over ≡ true) talked.received talked.sent sends.part (doors.state start.door)
            (doors.state a.place.door) (doors.state c.door)
            (grows_weaker (a.reading.is_over ≡ true) (now.is_over ≡ true) talked.received talked.sent (doors.state start.door)
            (doors.state a.place.door) (λ ended. sym over ∙ ended) (talked.told tells)) (sends.told tells);
        faults = sends.cause ∙ talked.faults;
        mine = talked.mine ++ sends.took.mine;
        went = add (sight start.desk) (sight a.place.desk) (sight c.desk) talked.mine sends.took.mine talked.went sends.took.went;
        looks = its.0;
        reads = its.1;
      }

  -- .. for the last time
  pub answers_last : AskingsEndWithLast → TurnsAddUp (AsksFolder disk) → (answers : List Answered) (start : OriginAt T A) (a : TalkAt T A)
      (asking : Asking) (used : ℕ) (fault : Bool) (c : OriginAt T A) → IsOneAsking a.reading.unread asking used
      → is_last_asking asking ≡ true → HasTalked sight disk doors answers start a
      → SendsText sight disk doors (reply_text (files_of sight disk doors a.place) asking fault) (once fault) None a.place c
      → HasTalkedToEnd sight disk doors (answers ++ answered asking fault ∷ []) HungUp start c
  answers_last ends add answers start a asking used fault c is last talked sends =
      let its = mine_behind answers start a asking fault 0 c _ None talked sends in
      record {
        received = talked.received;
        sent = talked.sent ++ sends.part;
        answers_are = (
          record {
            askings = subst (AreAskings talked.received) (sym (askings_behind answers (answered asking fault)))
                (ends talked.received (askings_in answers) a.reading.unread asking used talked.askings is last);
            sent_is = λ tells.
                sym (sent_behind answers start a asking fault None c talked sends tells
                ∙ (ap (λ rest. (talked.sent ++ sends.part) ++ rest) (sends.whole tells refl) ∙ append-nil (talked.sent ++ sends.part)));
          },
          record { front = askings_in answers; last = asking; are = askings_behind answers (answered asking fault); ends = last },
        );
        uncut = λ tells same. hung_uncut same;
        told = λ tells.
            grows_weaker ⊥ (HungUp ≡ AtItsEnd) talked.received (talked.sent ++ sends.part) (doors.state start.door) (doors.state c.door)
            (λ same. hung_not_over same)
            (grows_then_sent ⊥ talked.received talked.sent sends.part (doors.state start.door)
            (doors.state a.place.door) (doors.state c.door)
            (grows_weaker (a.reading.is_over ≡ true) ⊥ talked.received talked.sent (doors.state start.door)
            (doors.state a.place.door) (λ no. absurd no) (talked.told tells)) (sends.told tells));
        cause = sends.cause ∙ talked.faults;
        mine = talked.mine ++ sends.took.mine;
        went = add (sight start.desk) (sight a.place.desk) (sight c.desk) talked.mine sends.took.mine talked.went sends.took.went;
        turns = record { looks = its.0; reads = its.1 };
      }
    where
      hung_uncut : HungUp ≡ Cut → ⊥
      hung_uncut e = cc

      hung_not_over : HungUp ≡ AtItsEnd → ⊥
      hung_not_over e = cc

  -- .. in part, and this ended the connection
  pub answers_part : TurnsAddUp (AsksFolder disk) → (answers : List Answered) (start : OriginAt T A) (a : TalkAt T A)
      (asking : Asking) (used : ℕ) (fault : Bool) (end : VisitEnd) (c : OriginAt T A) → IsOneAsking a.reading.unread asking used
      → HasTalked sight disk doors answers start a
      → SendsText sight disk doors (reply_text (files_of sight disk doors a.place) asking fault) (once fault) (Some end) a.place c
      → HasTalkedToEnd sight disk doors (answers ++ answered asking fault ∷ []) end start c
  answers_part add answers start a asking used fault end c is talked sends =
      let its = mine_behind answers start a asking fault 0 c _ (Some end) talked sends in
      record {
        received = talked.received;
        sent = talked.sent ++ sends.part;
        answers_are =
            until_first disk.tells (files_of sight disk doors start) end (answers ++ answered asking fault ∷ []) talked.received
            (talked.sent ++ sends.part) sends.kind
            (record {
              askings = subst (AreFirstAskings talked.received) (sym (askings_behind answers (answered asking fault)))
                  (first_with_next talked.received (askings_in answers) a.reading.unread asking used talked.askings is);
              rest = sends.rest;
              front = λ tells. sent_behind answers start a asking fault (Some end) c talked sends tells;
            });
        uncut = λ tells same. sends.uncut tells (ap Some same);
        told = λ tells.
            grows_weaker ⊥ (end ≡ AtItsEnd) talked.received (talked.sent ++ sends.part) (doors.state start.door) (doors.state c.door)
            (λ same. not_over end sends.kind same)
            (grows_then_sent ⊥ talked.received talked.sent sends.part (doors.state start.door)
            (doors.state a.place.door) (doors.state c.door)
            (grows_weaker (a.reading.is_over ≡ true) ⊥ talked.received talked.sent (doors.state start.door)
            (doors.state a.place.door) (λ no. absurd no) (talked.told tells)) (sends.told tells));
        cause = behind_calm end (doors.faults start.door) (doors.faults a.place.door) (doors.faults c.door) talked.faults sends.cause;
        mine = talked.mine ++ sends.took.mine;
        went = add (sight start.desk) (sight a.place.desk) (sight c.desk) talked.mine sends.took.mine talked.went sends.took.went;
        turns = record { looks = its.0; reads = its.1 };
      }

-- ---- calls

module _ {D T A : Type 0} (sight : T → ShelfSight D) (disk : DiskSays D) (doors : DoorSays A) where
  -- since the connection came requests were answered, and it is open
  pub record IsTalking (start : OriginAt T A) (b : TalkAt T A) : Type 0 where
    pub answers : List Answered
    pub talked : HasTalked sight disk doors answers start b
    pub stays_open : IsTrue doors.tells → (doors.state b.place.door).is_open ≡ true

  pub starts_talking : NoTurnsChangeNothing (AsksFolder disk) → (desk : T) (door : A) (reading : Reading) → reading ≡ fresh_reading
      → (IsTrue doors.tells → (doors.state door).is_open ≡ true)
      → IsTalking (origin_at desk door) (talk_at desk door reading)
  starts_talking none desk door reading fresh opened =
      subst (λ now. IsTalking (origin_at desk door) (talk_at desk door now)) (sym fresh)
      (record { answers = []; talked = talks_none sight disk doors none desk door; stays_open = opened })

  pub goes_on_talking : (start : OriginAt T A) (a b : TalkAt T A) (end : Option VisitEnd) → IsTalking start a → end ≡ None
      → (IsTrue doors.tells → (doors.state b.place.door).is_open ≡ true) → GoesOn sight disk doors a b end → IsTalking start b
  goes_on_talking start a b end is same opened goes =
      let on = subst (HasGoneOn sight disk doors start b) same (goes start is.answers is.talked) in
      record { answers = on.0; talked = on.1; stays_open = opened }

  pub receives_on : AskingsTakeMore → (desk : T) (door door' : A) (was now : Reading) (end : Option VisitEnd)
      → HasReceived doors door was door' now end
      → GoesOn sight disk doors (talk_at desk door was) (talk_at desk door' now) end
  receives_on more desk door door' was now None came start answers talked =
      (answers, hears sight disk doors more answers start desk door door' was now came talked)
  receives_on more desk door door' was now (Some end) came start answers talked =
      (answers, hears_end sight disk doors more answers start desk door door' was now end came talked)

  pub settles : (desk : T) (door : A) (was now : Reading) → now ≡ record was { is_due = false }
      → GoesOn sight disk doors (talk_at desk door was) (talk_at desk door now) None
  settles desk door was now same start answers talked = (
    answers,
    subst (λ reading. HasTalked sight disk doors answers start (talk_at desk door reading)) (sym same)
        (record {
          received = talked.received;
          sent = talked.sent;
          askings = talked.askings;
          sent_is = talked.sent_is;
          told = talked.told;
          faults = talked.faults;
          mine = talked.mine;
          went = talked.went;
          looks = talked.looks;
          reads = talked.reads;
        }),
  )

  pub ends_on : AskingsEnd → (desk : T) (door : A) (was now : Reading) → IsAskUnfinished was.unread
      → now ≡ record was { is_due = false } → now.is_over ≡ true
      → GoesOn sight disk doors (talk_at desk door was) (talk_at desk door now) (Some AtItsEnd)
  ends_on ends desk door was now is same over start answers talked =
      (answers, ends_here sight disk doors ends answers start desk door was is (ap (λ r. r.is_over) (sym same) ∙ over) talked)

  pub starves_on : (desk : T) (door : A) (reading : Reading)
      → GoesOn sight disk doors (talk_at desk door reading) (talk_at desk door reading) (Some Starved)
  starves_on desk door reading start answers talked = (answers, starves sight disk doors answers start desk door reading talked)

  -- the reply to a request, whether the look for its file's length met a fault or not
  abbrev pub SendsReply : Asking → Option VisitEnd → OriginAt T A → OriginAt T A → Type 0
  SendsReply asking end a b =
      (fault : Bool) × SendsText sight disk doors (reply_text (files_of sight disk doors a) asking fault) (once fault) end a b

  pub answers_on : AskingsGoOn → TurnsAddUp (AsksFolder disk) → (desk desk' : T) (door door' : A) (was now : Reading) (asking : Asking)
      (used : ℕ) → IsOneAsking was.unread asking used → is_last_asking asking ≡ false
      → now ≡ record was { unread = drop used was.unread; is_due = true }
      → SendsReply asking None (origin_at desk door) (origin_at desk' door')
      → GoesOn sight disk doors (talk_at desk door was) (talk_at desk' door' now) None
  answers_on on add desk desk' door door' was now asking used is more same sends start answers talked = (
    answers ++ answered asking sends.0 ∷ [],
    answers_more sight disk doors on add answers start (talk_at desk door was) asking used sends.0 (origin_at desk' door') now is more
        (ap (λ r. r.unread) same) (ap (λ r. r.is_over) same) talked sends.1,
  )

  pub hangs_up_on : AskingsEndWithLast → TurnsAddUp (AsksFolder disk) → (desk desk' : T) (door door' : A) (was now : Reading) (asking : Asking)
      (used : ℕ) → IsOneAsking was.unread asking used → is_last_asking asking ≡ true
      → SendsReply asking None (origin_at desk door) (origin_at desk' door')
      → GoesOn sight disk doors (talk_at desk door was) (talk_at desk' door' now) (Some HungUp)
  hangs_up_on ends add desk desk' door door' was now asking used is last sends start answers talked = (
    answers ++ answered asking sends.0 ∷ [],
    answers_last sight disk doors ends add answers start (talk_at desk door was) asking used sends.0 (origin_at desk' door') is last
        talked sends.1,
  )

  pub breaks_on : TurnsAddUp (AsksFolder disk) → (desk desk' : T) (door door' : A) (was now : Reading) (asking : Asking)
      (used : ℕ) (end : VisitEnd) → IsOneAsking was.unread asking used
      → SendsReply asking (Some end) (origin_at desk door) (origin_at desk' door')
      → GoesOn sight disk doors (talk_at desk door was) (talk_at desk' door' now) (Some end)
  breaks_on add desk desk' door door' was now asking used end is sends start answers talked = (
    answers ++ answered asking sends.0 ∷ [],
    answers_part sight disk doors add answers start (talk_at desk door was) asking used sends.0 end (origin_at desk' door') is
        talked sends.1,
  )

  -- what is no request is answered without a turn
  pub sends_refusal : NoTurnsChangeNothing (AsksFolder disk) → (end : Option VisitEnd) (desk : T) (door door' : A)
      → HasSent doors (head_of_reply BadRequest) end door door' → SendsReply bad end (origin_at desk door) (origin_at desk door')
  sends_refusal none end desk door door' sent = (
    false,
    sent_text sight disk doors (head_of_reply BadRequest) (head_of_reply BadRequest) 0 end desk desk door door' (λ tells. refl)
        (took_none disk none (sight desk)) sent,
  )
