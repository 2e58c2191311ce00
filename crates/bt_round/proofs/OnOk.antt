-- What follows from what a call ensures where it succeeds.
use Rattle.std.proofs.Common.{◌≡◌, Result, Ok, Err, IsOk, OnOk, subst}

-- what follows from a fact holds where the fact does
pub on_ok : {T E P Q : Type 0} (result : Result T E) → OnOk result P → (P → Q) → OnOk result Q
on_ok (Ok value) holds so = so holds
on_ok (Err fault) holds so = tt

-- the same from two facts
pub on_both : {T E P Q R : Type 0} (result : Result T E) → OnOk result P → OnOk result Q → (P → Q → R) → OnOk result R
on_both (Ok value) one two so = so one two
on_both (Err fault) one two so = tt

-- and from three
pub on_three : {T E P Q R S : Type 0} (result : Result T E) → OnOk result P → OnOk result Q → OnOk result R → (P → Q → R → S) → OnOk result S
on_three (Ok value) one two three so = so one two three
on_three (Err fault) one two three so = tt

-- the fact itself, where the call succeeded
pub when_ok : {T E P : Type 0} (result : Result T E) (value : T) → result ≡ Ok value → OnOk result P → P
when_ok {T} {E} {P} result value is holds = subst (λ (r : Result T E). OnOk r P) is holds

-- and where it is known to have succeeded
pub where_ok : {T E P : Type 0} (result : Result T E) → IsOk result → OnOk result P → P
where_ok (Ok value) ok holds = holds
where_ok (Err fault) ok holds = cc
