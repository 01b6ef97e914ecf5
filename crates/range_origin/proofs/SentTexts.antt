-- Texts that are sent, one behind another.
use Rattle.std.proofs.Common.{◌≡◌, ℕ, ◌+◌, ◌≤◌, ◌<◌, List, [], ◌++◌, append_assoc, append-nil, Bool, true, false, cond, ◌-◌, length, take, drop, refl, ap, sym, ◌∙◌, subst, arith, inl, inr, true≢false}
use Rattle.std.proofs.Math.Seq.{take-add}
use Rattle.std.proofs.lemmas.Bool.{cases_Bool}
use Rattle.std.proofs.lemmas.List.{drop-drop}
use Rattle.std.specs.Prelude.{IsTrue, Option, Some, None, option_map, Result, Ok, Err}
use Rattle.dl_disk.specs.Files.{file_bytes}
use Rattle.dl_disk.specs.declared.disk.Disk.{Ghosts as DiskSays}
use Rattle.dl_kinds.specs.Causes.{HasCause}
use Rattle.dl_kinds.specs.Lists.{part_at}
use Rattle.dl_kinds.specs.declared.outside.IoErr.{IoErr}
use Rattle.dl_kinds.specs.declared.outside.IoErr.TheVariants.{Fault, NoMemory}
use Rattle.door_source.specs.DoorLaws.{NewestIsOne}
use Rattle.door_source.specs.Doors.{SendsToPeer}
use Rattle.door_source.specs.declared.Doors.{Ghosts as DoorSays}
use Rattle.turn_desk.specs.Laws.{NoTurnsChangeNothing, TurnsAddUp}
use Rattle.http_heads.specs.declared.ask_head.AskHead.{AskHead}
use Rattle.origin_replies.specs.Aims.{aim_of, is_get, reply_by_length, text_by_aim}
use Rattle.origin_replies.specs.Replies.{head_of_reply}
use Rattle.origin_replies.specs.declared.aim.Aim.TheVariants.{Refused, File}
use Rattle.origin_replies.specs.declared.reply.Reply.{Reply}
use Rattle.origin_replies.specs.declared.reply.Reply.TheVariants.{NotFound, Failed as FailedReply}
use Rattle.range_origin.specs.Answers.{AnswersFile, AnswersHead, HasLookedUp, HasReadPiece, IsReadEnd, once, reply_and_content}
use Rattle.range_origin.specs.Ends.{CausesIfEnd, disk_failed_if, disk_failed_once, visit_end_by}
use Rattle.range_origin.specs.Shelves.{AsksFolder, IsToldOf, LacksSlice}
use Rattle.range_origin.specs.declared.shelf.Ask.TheVariants.{Length as AskLength}
use Rattle.range_origin.specs.declared.shelf.Told.{Told}
use Rattle.range_origin.specs.declared.shelf.Told.TheVariants.{Length, Fault as FaultTold, NoMemory as ToldNoMemory}
use Rattle.range_origin.specs.Talking.{Grows, HasSent, IsBreak, IsSendEnd, OriginAt, SendsText, ShelfSight, TookTurns, fault_told, files_below, origin_at}
use Rattle.range_origin.specs.declared.ends.VisitEnd.{VisitEnd}
use Rattle.range_origin.specs.declared.ends.VisitEnd.TheVariants.{AtItsEnd, HungUp, Failed, DiskFailed, Cut, Starved}
use Rattle.range_origin.specs.declared.sending.Piece.TheVariants.{Read as PieceRead, Ended}
use Rattle.range_origin.proofs.Growing.{grows_both, grows_none, grows_sent}
use Rattle.range_origin.proofs.Turning.{took_as, took_both, took_none}

-- ---- one call

module _ {A : Type 0} (says : DoorSays A) where
  pub sent_all : NewestIsOne → (bytes : List ℕ) (old new : A) (result : Result (Unit {0}) IoErr) → result ≡ Ok tt
      → (IsTrue says.tells → SendsToPeer bytes result (says.state old) (says.state new))
      → HasCause (says.faults old) (says.faults new) result → HasSent says bytes None old new
  sent_all one bytes old new result is sent cause = record {
    part = bytes;
    rest = [];
    front = sym (append-nil bytes);
    whole = λ none. refl;
    kind = tt;
    told = λ tells. by (subst (λ r. SendsToPeer bytes r (says.state old) (says.state new)) is (sent tells));
    cause = (subst (HasCause (says.faults old) (says.faults new)) is cause).done;
  }
    where
      by : SendsToPeer bytes (Ok tt) (says.state old) (says.state new) → Grows ⊥ [] bytes (says.state old) (says.state new)
      by sends =
          subst (λ part. Grows ⊥ [] part (says.state old) (says.state new)) sends.whole
          (grows_sent one sends.newest sends.part (says.state old) (says.state new) sends.becomes)

  pub sent_none : (text : List ℕ) (door : A) → HasSent says text (Some Starved) door door
  sent_none text door = record {
    part = [];
    rest = text;
    front = refl;
    whole = λ no. absurd (none_some no);
    kind = tt;
    told = λ tells. grows_none (says.state door);
    cause = refl;
  }
    where
      none_some : Some Starved ≡ None → ⊥
      none_some e = cc

  pub kind_by : (error : IoErr) → IsSendEnd (Some (visit_end_by error))
  kind_by Fault = tt
  kind_by NoMemory = tt

  pub cause_by : {R : Type 0} → (error : IoErr) (before now : ℕ) → HasCause {T = R} before now (Err error)
      → CausesIfEnd (Some (visit_end_by error)) before now
  cause_by {R} Fault before now cause = cause.fault refl
  cause_by {R} NoMemory before now cause = cause.none refl

  some_none : {A : Type 0} (x : A) → Some x ≡ None → ⊥
  some_none x e = cc

  pub sent_part : NewestIsOne → (bytes : List ℕ) (old new : A) (result : Result (Unit {0}) IoErr) (error : IoErr) → result ≡ Err error
      → (IsTrue says.tells → SendsToPeer bytes result (says.state old) (says.state new))
      → HasCause (says.faults old) (says.faults new) result → HasSent says bytes (Some (visit_end_by error)) old new
  sent_part one bytes old new result error is sent cause =
      let why : CausesIfEnd (Some (visit_end_by error)) (says.faults old) (says.faults new) =
      cause_by error _ _ (subst (HasCause (says.faults old) (says.faults new)) is cause) in
      elim (cases_Bool says.tells) [
        | inl tells ↦
            let sends = sent tells in
            record {
              part = sends.part;
              rest = sends.rest;
              front = sends.front;
              whole = λ no. absurd (some_none (visit_end_by error) no);
              kind = kind_by error;
              told = λ _. grows_sent one sends.newest sends.part (says.state old) (says.state new) sends.becomes;
              cause = why;
            }
        | inr silent ↦
            record {
              part = [];
              rest = bytes;
              front = refl;
              whole = λ none. absurd (some_none (visit_end_by error) none);
              kind = kind_by error;
              told = λ tells. absurd (true≢false (sym tells ∙ silent));
              cause = why;
            }
      ]

pub no_disk_failure : (end : Option VisitEnd) → IsSendEnd end → disk_failed_if end ≡ 0
no_disk_failure None is = refl
no_disk_failure (Some AtItsEnd) is = refl
no_disk_failure (Some HungUp) is = refl
no_disk_failure (Some Failed) is = refl
no_disk_failure (Some DiskFailed) is = absurd is
no_disk_failure (Some Cut) is = refl
no_disk_failure (Some Starved) is = refl

pub break_by_call : (end : Option VisitEnd) → IsSendEnd end → IsBreak end
break_by_call None is = tt
break_by_call (Some AtItsEnd) is = absurd is
break_by_call (Some HungUp) is = absurd is
break_by_call (Some Failed) is = tt
break_by_call (Some DiskFailed) is = tt
break_by_call (Some Cut) is = tt
break_by_call (Some Starved) is = tt

break_by_turn : (end : VisitEnd) → IsReadEnd end → IsBreak (Some end)
break_by_turn AtItsEnd is = absurd is
break_by_turn HungUp is = absurd is
break_by_turn Failed is = tt
break_by_turn DiskFailed is = tt
break_by_turn Cut is = tt
break_by_turn Starved is = tt

calm : (end : VisitEnd) (n : ℕ) → IsReadEnd end → CausesIfEnd (Some end) n n
calm AtItsEnd n is = absurd is
calm HungUp n is = absurd is
calm Failed n is = absurd is
calm DiskFailed n is = refl
calm Cut n is = refl
calm Starved n is = refl

end_same : (end : VisitEnd) → Some end ≡ Some Cut → end ≡ Cut
end_same end e = cc

end_none : (end : VisitEnd) → Some end ≡ None → ⊥
end_none end e = cc

cause_behind : (end : Option VisitEnd) (a b c : ℕ) → b ≡ a → CausesIfEnd end b c → CausesIfEnd end a c
cause_behind end a b c same cause = subst (λ n. CausesIfEnd end n c) same cause

-- ---- texts beside turns

module _ {D T A : Type 0} (sight : T → ShelfSight D) (disk : DiskSays D) (doors : DoorSays A) where
  -- one call, beside turns
  pub sent_text : (text bytes : List ℕ) (n : ℕ) (end : Option VisitEnd) (d d' : T) (door door' : A)
      → (IsTrue disk.tells → text ≡ bytes) → TookTurns disk (sight d) n 0 (sight d') → HasSent doors bytes end door door'
      → SendsText sight disk doors text n end (origin_at d door) (origin_at d' door')
  sent_text text bytes n end d d' door door' same took sent =
      let none = no_disk_failure end sent.kind in
      record {
        part = sent.part;
        rest = sent.rest;
        front = λ tells. same tells ∙ sent.front;
        whole = λ tells. sent.whole;
        took = took_as disk (sight d) (sight d') n n 0 (disk_failed_if end) refl (sym none) took;
        told = sent.told;
        cause = sent.cause;
        kind = break_by_call end sent.kind;
        uncut = λ tells is. subst IsSendEnd is sent.kind;
      }

  -- a turn ended the connection
  pub ended_text : (text : List ℕ) (n : ℕ) (end : VisitEnd) (d d' : T) (door : A) → IsReadEnd end
      → TookTurns disk (sight d) n (disk_failed_once end) (sight d') → (IsTrue disk.tells → end ≡ Cut → ⊥)
      → SendsText sight disk doors text n (Some end) (origin_at d door) (origin_at d' door)
  ended_text text n end d d' door kind took uncut = record {
    part = [];
    rest = text;
    front = λ tells. refl;
    whole = λ tells no. absurd (end_none end no);
    took = took;
    told = λ tells. grows_none (doors.state door);
    cause = calm end (doors.faults door) kind;
    kind = break_by_turn end kind;
    uncut = λ tells is. uncut tells (end_same end is);
  }

  -- nothing was to be sent
  pub sends_none : NoTurnsChangeNothing (AsksFolder disk) → (a : OriginAt T A) → SendsText sight disk doors [] 0 None a a
  sends_none none a = record {
    part = [];
    rest = [];
    front = λ tells. refl;
    whole = λ tells is. refl;
    took = took_none disk none (sight a.desk);
    told = λ tells. grows_none (doors.state a.door);
    cause = refl;
    kind = tt;
    uncut = λ tells no. none_cut no;
  }
    where
      none_cut : None ≡ Some Cut → ⊥
      none_cut e = cc

  pub sends_same : (text other : List ℕ) (n : ℕ) (end : Option VisitEnd) (a b : OriginAt T A) → (IsTrue disk.tells → other ≡ text)
      → SendsText sight disk doors text n end a b → SendsText sight disk doors other n end a b
  sends_same text other n end a b same sends = record {
    part = sends.part;
    rest = sends.rest;
    front = λ tells. same tells ∙ sends.front tells;
    whole = sends.whole;
    took = sends.took;
    told = sends.told;
    cause = sends.cause;
    kind = sends.kind;
    uncut = sends.uncut;
  }

  -- one text behind another
  pub sends_both : TurnsAddUp (AsksFolder disk) → (first then : List ℕ) (m n : ℕ) (end : Option VisitEnd) (a b c : OriginAt T A)
      → SendsText sight disk doors first m None a b → SendsText sight disk doors then n end b c
      → SendsText sight disk doors (first ++ then) (m + n) end a c
  sends_both add first then m n end a b c one two = record {
    part = one.part ++ two.part;
    rest = two.rest;
    front = λ tells.
        let done : first ≡ one.part = one.front tells ∙ (ap (λ r. one.part ++ r) (one.whole tells refl) ∙ append-nil one.part) in
        (λ i. done i ++ two.front tells i) ∙ sym (append_assoc one.part two.part two.rest);
    whole = two.whole;
    took =
        took_as disk (sight a.desk) (sight c.desk) (m + n) (m + n) (0 + disk_failed_if end) (disk_failed_if end) refl (omega arith)
        (took_both disk add (sight a.desk) (sight b.desk) (sight c.desk) m n 0 (disk_failed_if end) one.took two.took);
    told = λ tells.
        grows_both ⊥ [] one.part [] two.part (doors.state a.door) (doors.state b.door) (doors.state c.door) (one.told tells)
        (two.told tells);
    cause = cause_behind end (doors.faults a.door) (doors.faults b.door) (doors.faults c.door) one.cause two.cause;
    kind = two.kind;
    uncut = two.uncut;
  }

  -- more was to follow
  pub sends_front : (first then : List ℕ) (n : ℕ) (end : VisitEnd) (a b : OriginAt T A)
      → SendsText sight disk doors first n (Some end) a b → SendsText sight disk doors (first ++ then) n (Some end) a b
  sends_front first then n end a b one = record {
    part = one.part;
    rest = one.rest ++ then;
    front = λ tells. ap (λ f. f ++ then) (one.front tells) ∙ append_assoc one.part one.rest then;
    whole = λ tells no. absurd (end_none end no);
    took = one.took;
    told = one.told;
    cause = one.cause;
    kind = one.kind;
    uncut = one.uncut;
  }

  -- the files below the folder stay
  pub files_stay : (m n : ℕ) (s s' : ShelfSight D) (name : List ℕ) → TookTurns disk s m n s'
      → files_below disk s'.given name ≡ files_below disk s.given name
  files_stay m n s s' name took = ap (λ given. files_below disk given name) took.went.given

  -- a piece of a file
  pub sent_piece : (name : List ℕ) (at len : ℕ) (bytes : List ℕ) (end : Option VisitEnd) (d d' : T) (door door' : A)
      → HasReadPiece disk name at len (sight d) (sight d') (PieceRead bytes) → HasSent doors bytes end door door'
      → SendsText sight disk doors (part_at (file_bytes (files_below disk (sight d).given name)) at len) 0 end (origin_at d door) (origin_at d' door')
  sent_piece name at len bytes end d d' door door' read sent =
      sent_text _ bytes 0 end d d' door door'
      (λ tells. sym ((read.2 tells).bytes ∙ ap (λ n. take n (drop at (file_bytes (files_below disk (sight d).given name)))) read.1))
      read.0 sent

  pub ended_piece : (name : List ℕ) (at len : ℕ) (end : VisitEnd) (d d' : T) (door : A) → 0 < len
      → (IsTrue disk.tells → at + len ≤ length (file_bytes (files_below disk (sight d).given name)))
      → HasReadPiece disk name at len (sight d) (sight d') (Ended end)
      → SendsText sight disk doors (part_at (file_bytes (files_below disk (sight d).given name)) at len) 0 (Some end) (origin_at d door) (origin_at d' door)
  ended_piece name at len end d d' door some held read =
      ended_text _ 0 end d d' door read.1 read.0
      (λ tells is. lacks (files_below disk (sight d).given name) (held tells) (read.2 tells is))
    where
      lacks : (file : Option (List ℕ)) → at + len ≤ length (file_bytes file) → LacksSlice file at len → ⊥
      lacks None within none = omega (arith, within, some)
      lacks (Some bytes) within short = omega (arith, within, short)

-- ---- the slice of a file

-- in two parts
pub part_both : (bytes : List ℕ) (at m n : ℕ) → part_at bytes at (m + n) ≡ part_at bytes at m ++ part_at bytes (at + m) n
part_both bytes at m n =
    take-add m n (drop at bytes)
    ∙ ap (λ rest. take m (drop at bytes) ++ take n rest) (drop-drop m at bytes)

module _ {D T A : Type 0} (sight : T → ShelfSight D) (disk : DiskSays D) (doors : DoorSays A) where
  -- the bytes of the file
  abbrev pub bytes_of : List ℕ → OriginAt T A → List ℕ
  bytes_of name a = file_bytes (files_below disk (sight a.desk).given name)

  -- so many bytes from a place on were sent, and the connection goes on
  pub record IsSending (name : List ℕ) (first len done : ℕ) (a b : OriginAt T A) : Type 0 where
    pub sent : SendsText sight disk doors (part_at (bytes_of name a) first done) 0 None a b
    pub within : done ≤ len
    pub stays_open : IsTrue doors.tells → (doors.state b.door).is_open ≡ true

  pub starts_sending : NoTurnsChangeNothing (AsksFolder disk) → (name : List ℕ) (first len : ℕ) (a : OriginAt T A)
      → (IsTrue doors.tells → (doors.state a.door).is_open ≡ true) → IsSending name first len 0 a a
  starts_sending none name first len a open_is =
      record { sent = sends_none sight disk doors none a; within = omega arith; stays_open = open_is }

  -- the piece that comes next
  abbrev pub piece_at : List ℕ → ℕ → ℕ → ℕ → OriginAt T A → List ℕ
  piece_at name first done count b = part_at (bytes_of name b) (first + done) count

  sends_piece : TurnsAddUp (AsksFolder disk) → (name : List ℕ) (first done count : ℕ) (end : Option VisitEnd) (a b c : OriginAt T A)
      → SendsText sight disk doors (part_at (bytes_of name a) first done) 0 None a b
      → SendsText sight disk doors (piece_at name first done count b) 0 end b c
      → SendsText sight disk doors (part_at (bytes_of name a) first (done + count)) (0 + 0) end a c
  sends_piece add name first done count end a b c one two =
      let stay = files_stay sight disk doors 0 0 (sight a.desk) (sight b.desk) name one.took in
      sends_same sight disk doors _ _ (0 + 0) end a c
      (λ tells.
      part_both (bytes_of name a) first done count
      ∙ ap (λ file. part_at (bytes_of name a) first done ++ part_at (file_bytes file) (first + done) count) (sym stay))
      (sends_both sight disk doors add _ _ 0 0 end a b c one two)

  pub sends_on : TurnsAddUp (AsksFolder disk) → (name : List ℕ) (first len done count : ℕ) (a b c : OriginAt T A)
      → done + count ≤ len → (IsTrue doors.tells → (doors.state c.door).is_open ≡ true)
      → IsSending name first len done a b → SendsText sight disk doors (piece_at name first done count b) 0 None b c
      → IsSending name first len (done + count) a c
  sends_on add name first len done count a b c within open_is is two = record {
    sent = sends_piece add name first done count None a b c is.sent two;
    within = within;
    stays_open = open_is;
  }

  pub sends_stop : TurnsAddUp (AsksFolder disk) → (name : List ℕ) (first len done count : ℕ) (end : VisitEnd) (a b c : OriginAt T A)
      → done + count ≤ len → IsSending name first len done a b
      → SendsText sight disk doors (piece_at name first done count b) 0 (Some end) b c
      → SendsText sight disk doors (part_at (bytes_of name a) first len) 0 (Some end) a c
  sends_stop add name first len done count end a b c within is two =
      let left : (done + count) + (len - (done + count)) ≡ len = omega (arith, within) in
      sends_same sight disk doors _ _ 0 (Some end) a c
      (λ tells. ap (part_at (bytes_of name a) first) (sym left) ∙ part_both (bytes_of name a) first (done + count) (len - (done + count)))
      (sends_front sight disk doors _ _ 0 end a c (sends_piece add name first done count (Some end) a b c is.sent two))

  pub sends_end : (name : List ℕ) (first len done : ℕ) (a b : OriginAt T A) → len ≤ done → IsSending name first len done a b
      → SendsText sight disk doors (part_at (bytes_of name a) first len) 0 None a b
  sends_end name first len done a b all is =
      let within = is.within in
      subst (λ n. SendsText sight disk doors (part_at (bytes_of name a) first n) 0 None a b) (omega (arith, all, within)) is.sent

  -- what is still to be sent is in the file
  pub still_held : (name : List ℕ) (first len done count : ℕ) (a b : OriginAt T A) → done + count ≤ len
      → (IsTrue disk.tells → first + len ≤ length (bytes_of name a)) → IsSending name first len done a b
      → IsTrue disk.tells → first + done + count ≤ length (bytes_of name b)
  still_held name first len done count a b within held is tells =
      let stay = files_stay sight disk doors 0 0 (sight a.desk) (sight b.desk) name is.sent.took in
      let has = held tells in
      subst (λ file. first + done + count ≤ length (file_bytes file)) (sym stay) (omega (arith, within, has))

  -- ---- replies

  -- the head, and what is sent behind it
  pub head_then : TurnsAddUp (AsksFolder disk) → NoTurnsChangeNothing (AsksFolder disk) → (head content : List ℕ) (end : Option VisitEnd)
      (d d' : T) (door door' door'' : A) → HasSent doors head None door door'
      → SendsText sight disk doors content 0 end (origin_at d door') (origin_at d' door'')
      → SendsText sight disk doors (head ++ content) 0 end (origin_at d door) (origin_at d' door'')
  head_then add none head content end d d' door door' door'' sent behind =
      sends_both sight disk doors add head content 0 0 end (origin_at d door) (origin_at d door') (origin_at d' door'')
      (sent_text sight disk doors head head 0 None d d door door' (λ tells. refl) (took_none disk none (sight d)) sent) behind

  pub head_alone : NoTurnsChangeNothing (AsksFolder disk) → (head : List ℕ) (end : Option VisitEnd) (d : T) (door door' : A)
      → HasSent doors head end door door' → SendsText sight disk doors (head ++ []) 0 end (origin_at d door) (origin_at d door')
  head_alone none head end d door door' sent =
      sent_text sight disk doors (head ++ []) head 0 end d d door door' (λ tells. append-nil head) (took_none disk none (sight d)) sent

  pub head_stops : NoTurnsChangeNothing (AsksFolder disk) → (head content : List ℕ) (end : VisitEnd) (d : T) (door door' : A)
      → HasSent doors head (Some end) door door'
      → SendsText sight disk doors (head ++ content) 0 (Some end) (origin_at d door) (origin_at d door')
  head_stops none head content end d door door' sent =
      sends_front sight disk doors head content 0 end (origin_at d door) (origin_at d door')
      (sent_text sight disk doors head head 0 (Some end) d d door door' (λ tells. refl) (took_none disk none (sight d)) sent)

  -- ---- behind a look for a length

  pub behind_look : TurnsAddUp (AsksFolder disk) → (text other : List ℕ) (n : ℕ) (end : Option VisitEnd) (d d' : T) (door : A) (c : OriginAt T A)
      → TookTurns disk (sight d) n 0 (sight d') → (IsTrue disk.tells → other ≡ text)
      → SendsText sight disk doors text 0 end (origin_at d' door) c → SendsText sight disk doors other n end (origin_at d door) c
  behind_look add text other n end d d' door c took same sends = record {
    part = sends.part;
    rest = sends.rest;
    front = λ tells. same tells ∙ sends.front tells;
    whole = sends.whole;
    took =
        took_as disk (sight d) (sight c.desk) (n + 0) n (0 + disk_failed_if end) (disk_failed_if end) (omega arith) (omega arith)
        (took_both disk add (sight d) (sight d') (sight c.desk) n 0 0 (disk_failed_if end) took sends.took);
    told = sends.told;
    cause = sends.cause;
    kind = sends.kind;
    uncut = sends.uncut;
  }

no_content : (get : Bool) (bytes : List ℕ) → cond get (part_at bytes 0 0) [] ≡ []
no_content true bytes = refl
no_content false bytes = refl

no_length : (file : Option (List ℕ)) → None ≡ option_map length file → file ≡ None
no_length None is = refl
no_length (Some bytes) is = absurd (some_length (length bytes) is)
  where
    some_length : (n : ℕ) → None ≡ Some n → ⊥
    some_length n e = cc

starved_uncut : Starved ≡ Cut → ⊥
starved_uncut e = cc

module _ {D T A : Type 0} (sight : T → ShelfSight D) (disk : DiskSays D) (doors : DoorSays A) where
  abbrev file_of : List ℕ → T → Option (List ℕ)
  file_of name d = files_below disk (sight d).given name

  told_by : (name : List ℕ) (d d' : T) (told : Told) (len : Option ℕ) → HasLookedUp disk name (sight d) (sight d') told → told ≡ Length len
      → IsTrue disk.tells → len ≡ option_map length (file_of name d)
  told_by name d d' told len looked is tells =
      subst (IsToldOf (file_of name d) (AskLength name)) is (looked.is tells)

  -- the file has this length
  pub answers_sized : TurnsAddUp (AsksFolder disk) → (head : AskHead) (name : List ℕ) (total : ℕ) (end : Option VisitEnd) (told : Told)
      (d d' : T) (door : A) (c : OriginAt T A) → HasLookedUp disk name (sight d) (sight d') told → told ≡ Length (Some total)
      → SendsText sight disk doors (reply_and_content head (reply_by_length head (Some total)) (file_of name d')) 0 end (origin_at d' door) c
      → AnswersFile sight disk doors head name end (origin_at d door) c
  answers_sized add head name total end told d d' door c looked is sends =
      let stay : file_of name d' ≡ file_of name d = files_stay sight disk doors (fault_told told) 0 (sight d) (sight d') name looked.took in (
        false,
        behind_look sight disk doors add _ _ 0 end d d' door c (took_as disk (sight d) (sight d') (fault_told told) 0 0 0 (ap fault_told is) refl looked.took)
            (λ tells i. reply_and_content head (reply_by_length head (sym (told_by name d d' told (Some total) looked is tells) i)) (sym stay i)) sends,
      )

  -- there is no such file
  pub answers_none : (head : AskHead) (name : List ℕ) (end : Option VisitEnd) (told : Told)
      (d d' : T) (door door' : A) → HasLookedUp disk name (sight d) (sight d') told → told ≡ Length None
      → HasSent doors (head_of_reply NotFound) end door door' → AnswersFile sight disk doors head name end (origin_at d door) (origin_at d' door')
  answers_none head name end told d d' door door' looked is sent = (
    false,
    sent_text sight disk doors _ (head_of_reply NotFound) 0 end d d' door door'
        (λ tells.
        let none = no_length (file_of name d) (told_by name d d' told None looked is tells) in
        ap (λ file. reply_and_content head (reply_by_length head (option_map length file)) file) none
        ∙ (ap (λ c. head_of_reply NotFound ++ c) (no_content (is_get head) []) ∙ append-nil (head_of_reply NotFound)))
        (took_as disk (sight d) (sight d') (fault_told told) 0 0 0 (ap fault_told is) refl looked.took) sent,
  )

  -- the disk failed
  pub answers_failed : (head : AskHead) (name : List ℕ) (end : Option VisitEnd) (told : Told) (count : ℕ)
      (d d' : T) (door door' : A) → HasLookedUp disk name (sight d) (sight d') told → told ≡ FaultTold count
      → HasSent doors (head_of_reply FailedReply) end door door' → AnswersFile sight disk doors head name end (origin_at d door) (origin_at d' door')
  answers_failed head name end told count d d' door door' looked is sent = (
    true,
    sent_text sight disk doors _ (head_of_reply FailedReply) 1 end d d' door door'
        (λ tells.
        ap (λ c. head_of_reply FailedReply ++ c) (no_content (is_get head) (file_bytes (file_of name d)))
        ∙ append-nil (head_of_reply FailedReply))
        (subst (λ told. TookTurns disk (sight d) (fault_told told) 0 (sight d')) is looked.took) sent,
  )

  -- memory was wanting
  pub answers_starved : (head : AskHead) (name : List ℕ) (told : Told) (d d' : T) (door : A)
      → HasLookedUp disk name (sight d) (sight d') told → told ≡ ToldNoMemory
      → AnswersFile sight disk doors head name (Some Starved) (origin_at d door) (origin_at d' door)
  answers_starved head name told d d' door looked is = (
    false,
    ended_text sight disk doors _ 0 Starved d d' door tt
        (took_as disk (sight d) (sight d') (fault_told told) 0 0 0 (ap fault_told is) refl looked.took)
        (λ tells cut. starved_uncut cut),
  )

  -- ---- any request

  pub answers_refused : NoTurnsChangeNothing (AsksFolder disk) → (head : AskHead) (reply : Reply) (end : Option VisitEnd) (d : T) (door door' : A)
      → aim_of head ≡ Refused reply → HasSent doors (head_of_reply reply) end door door'
      → AnswersHead sight disk doors head end (origin_at d door) (origin_at d door')
  answers_refused none head reply end d door door' is sent = (
    false,
    sent_text sight disk doors _ (head_of_reply reply) 0 end d d door door'
        (λ tells. ap (text_by_aim (files_below disk (sight d).given) head false) is) (took_none disk none (sight d)) sent,
  )

  pub answers_named : (head : AskHead) (name : List ℕ) (end : Option VisitEnd) (a b : OriginAt T A)
      → aim_of head ≡ File name → AnswersFile sight disk doors head name end a b → AnswersHead sight disk doors head end a b
  answers_named head name end a b is answers = (
    answers.0,
    sends_same sight disk doors _ _ (once answers.0) end a b
        (λ tells. ap (text_by_aim (files_below disk (sight a.desk).given) head answers.0) is) answers.1,
  )

  pub answers_none_read : NoTurnsChangeNothing (AsksFolder disk) → (head : AskHead) (d : T) (door : A)
      → AnswersHead sight disk doors head (Some Starved) (origin_at d door) (origin_at d door)
  answers_none_read none head d door = (
    false,
    ended_text sight disk doors _ 0 Starved d d door tt
        (took_none disk none (sight d)) (λ tells is. starved_uncut is),
  )
