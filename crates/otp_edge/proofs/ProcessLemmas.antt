-- Processes and their terms are one to one.
use Rattle.otp_edge.proofs.Words.{ap, arith, IsPid, Pid, process_of, ℕ, ◌%◌, ◌/◌, ◌^◌, ◌≡◌}
use Rattle.external_terms.specs.Values.{ProcessFits}

pub pid_fits : (p : Pid) → IsPid p → ProcessFits (process_of p)
pid_fits p is = let long = is.node.text.not_long in let number = is.number in
    let creation = is.creation in record {
      node = omega arith;
      id = omega arith;
      serial = omega arith;
      creation = creation;
    }

one_number : (m n : ℕ) → m % 2 ^ 32 ≡ n % 2 ^ 32 → m / 2 ^ 32 ≡ n / 2 ^ 32 → m ≡ n
one_number m n low high = omega arith

pub one_pid : (p q : Pid) → process_of p ≡ process_of q → p ≡ q
one_pid p q same =
    let node = ap (λ r. r.node) same in
    let creation = ap (λ r. r.creation) same in
    let number = one_number p.number q.number (ap (λ r. r.id) same) (ap (λ r. r.serial) same) in
    λ i. record { node = node i; creation = creation i; number = number i }
