-- What a call did to the known bytes, where its answer is made of another call's.
use Rattle.std.proofs.Common.{◌≡◌, ℕ, List, [], take, ◌∙◌, subst, Some, None, Ok, Err}
use Rattle.std.proofs.lemmas.List.{append-nil}
use Rattle.std.specs.declared.option.Option.{Option}
use Rattle.std.specs.declared.result.Result.{Result}
use Rattle.std.specs.Result.{IfOk, OnErr, IsErr}
use Rattle.std.specs.Io.KnownBytes.{Appends, Keeps, ReadConsumes, WriteAppends}

pub reads_as : {E D : Type 0} (old start new : Option (List ℕ)) (buffer : List ℕ) (outcome : Result ℕ E) (result : Result ℕ D)
    → start ≡ old → IfOk result (λ n. outcome ≡ Ok n) → OnErr result (IsErr outcome)
    → ReadConsumes start new outcome buffer → ReadConsumes old new result buffer
reads_as {E = E} {D = D} old start new buffer outcome result began same failed h =
    subst (λ (known : Option (List ℕ)). ReadConsumes {E = D} known new result buffer) began (answered outcome result same failed h)
  where
    answered : (o : Result ℕ E) (r : Result ℕ D) → IfOk r (λ n. o ≡ Ok n) → OnErr r (IsErr o) → ReadConsumes start new o buffer → ReadConsumes start new r buffer
    answered (Ok m) (Ok n) same failed h =
        let e : m ≡ n = cc in
        subst (λ (k : ℕ). ReadConsumes {E = D} start new (Ok k) buffer) e h
    answered (Err e) (Ok n) same failed h = cc
    answered (Ok m) (Err d) same failed h = cc
    answered (Err e) (Err d) same failed h = h

kept : (old new : Option (List ℕ)) → Appends old new [] → Keeps old new
kept None new h = tt
kept (Some s) None h = absurd h
kept (Some s) (Some t) h = h ∙ append-nil s

pub writes_as : {E D : Type 0} (old start new : Option (List ℕ)) (piece : List ℕ) (outcome : Result ℕ E) (result : Result ℕ D)
    → start ≡ old → IfOk result (λ n. outcome ≡ Ok n) → OnErr result (IfOk outcome (λ n. n ≡ 0))
    → WriteAppends start new outcome piece → WriteAppends old new result piece
writes_as {E = E} {D = D} old start new piece outcome result began same failed h =
    subst (λ (known : Option (List ℕ)). WriteAppends {E = D} known new result piece) began (answered outcome result same failed h)
  where
    answered : (o : Result ℕ E) (r : Result ℕ D) → IfOk r (λ n. o ≡ Ok n) → OnErr r (IfOk o (λ n. n ≡ 0)) → WriteAppends start new o piece → WriteAppends start new r piece
    answered (Ok m) (Ok n) same failed h =
        let e : m ≡ n = cc in
        subst (λ (k : ℕ). WriteAppends {E = D} start new (Ok k) piece) e h
    answered (Err e) (Ok n) same failed h = cc
    answered (Ok m) (Err d) same failed h = kept start new (subst (λ (k : ℕ). Appends start new (take k piece)) failed h)
    answered (Err e) (Err d) same failed h = h
