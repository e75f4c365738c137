-- The texts of some reports, written out.
use Rattle.std.specs.Fmt.{digits}
use Rattle.fs_types.proofs.Common.{◌≡◌, ℕ, List, ◌<◌, [], ◌∷◌, ◌++◌, true, false, codes, refl, arith, nat_lt, list_all, nat_tests}
use Rattle.fs_types.proofs.Common.{All-weaker, recursion_from_All, AllPass-from_list_all}
use Rattle.fs_script.specs.Vocabulary.{Report, AreBytes, IsPrintable, text, answer_line, journal_line, file_line, path_lines, line_feed}
use Rattle.fs_script.specs.Vocabulary.{slot_line}
use Rattle.hex.proofs.OnLiterals.{hex_on_literals}
use Rattle.fs_script.proofs.FiveLines.{path_a, five_journal}
use Rattle.fs_types.specs.declared.answer.Answer.TheVariants as answers
use Rattle.fs_types.specs.declared.answer.Body.TheVariants as bodies
use Rattle.fs_types.specs.declared.file_state.FileState.TheVariants as states

-- the MD5 digest of `hello`
abbrev hello_digest : List ℕ
hello_digest = 0x5d ∷ 0x41 ∷ 0x40 ∷ 0x2a ∷ 0xbc ∷ 0x4b ∷ 0x2a ∷ 0x76 ∷ 0xb9 ∷ 0x71 ∷ 0x9d ∷ 0x91 ∷ 0x10 ∷ 0x17 ∷ 0xc5 ∷ 0x92 ∷ []

-- a byte by a test
byte_from_test : (b : ℕ) → nat_lt b 256 ≡ true → b < 256
byte_from_test b h = grind (arith, nat_tests)

-- bytes by a test
are_bytes : (bytes : List ℕ) → list_all (λ b. nat_lt b 256) bytes ≡ true → AreBytes bytes
are_bytes bytes h = recursion_from_All (λ b. b < 256) bytes
    (All-weaker (λ b. nat_lt b 256 ≡ true) (λ b. b < 256) byte_from_test bytes (AllPass-from_list_all (λ b. nat_lt b 256) bytes h))

-- the report of the script of five lines
abbrev pub five_report : Report
five_report = record {
  answers = (2, answers.Done 1) ∷ (3, answers.Wrote 1) ∷ (4, answers.Done 2) ∷ (5, answers.Shown 2 3 (bodies.Hex (codes "ell"))) ∷ [];
  journals = (path_a, five_journal) ∷ [];
  files = (path_a, states.Whole 5 false hello_digest) ∷ [];
  slots = record { rank = 0; held = 1; free = 3; faults = 0 } ∷ [];
}

-- its text
five_text : text five_report ≡
    codes "L 2 ok v=1" ++ line_feed
    ++ codes "L 3 ok slots=1" ++ line_feed
    ++ codes "L 4 ok v=2" ++ line_feed
    ++ codes "L 5 ok v=2 n=3 hex=656c6c" ++ line_feed
    ++ codes "J /unifyfs/a 2 4" ++ line_feed
    ++ codes "F /unifyfs/a n=5 frozen=0 md5=5d41402abc4b2a76b9719d911017c592" ++ line_feed
    ++ codes "S 0 held=1 free=3 faults=0" ++ line_feed
    ++ codes "end" ++ line_feed
unfolding digits hex_on_literals
five_text = refl

-- it is printable
five_printable : IsPrintable five_report
five_printable = record {
  answers = (
    record { line = omega arith; answer = omega arith },
    (
      record { line = omega arith; answer = omega arith },
      (
        record { line = omega arith; answer = omega arith },
        (
          record {
            line = omega arith;
            answer = record {
              version = omega arith;
              count = omega arith;
              shown = record { size = omega arith; bytes = are_bytes (codes "ell") refl };
            };
          },
          tt,
        ),
      ),
    ),
  );
  journals = (record { path = refl; lines = (omega arith, (omega arith, tt)) }, tt);
  files = (
    record { path = refl; state = record { count = omega arith; digest = record { size = refl; bytes = are_bytes hello_digest refl } } },
    tt,
  );
  slots = (record { client = omega arith; held = omega arith; free = omega arith; faults = omega arith }, tt);
  as_many = refl;
}

-- a job with no operations
text_of_nothing : text (record { answers = []; journals = []; files = []; slots = [] }) ≡ codes "end" ++ line_feed
text_of_nothing = refl

-- a client that has not opened the path
line_of_badf : answer_line (12, answers.BadF) ≡ codes "L 12 badf" ++ line_feed
unfolding digits
line_of_badf = refl

-- a write past the longest file
line_of_toobig : answer_line (13, answers.TooBig) ≡ codes "L 13 toobig" ++ line_feed
unfolding digits
line_of_toobig = refl

-- a create of what is there, at the last line that there can be
line_of_exists : answer_line (4294967295, answers.Exists 1) ≡ codes "L 4294967295 exists v=1" ++ line_feed
unfolding digits
line_of_exists = refl

-- a read of what is not there
line_of_noent : answer_line (2, answers.NoEnt 3) ≡ codes "L 2 noent v=3" ++ line_feed
unfolding digits
line_of_noent = refl

-- a read of no bytes
line_of_empty_read : answer_line (7, answers.Shown 1 0 (bodies.Hex [])) ≡ codes "L 7 ok v=1 n=0 hex=" ++ line_feed
unfolding digits hex_on_literals
line_of_empty_read = refl

-- a read of more than 32 bytes
line_of_long_read : answer_line (8, answers.Shown 18446744073709551615 4096 (bodies.Md5 hello_digest)) ≡
    codes "L 8 ok v=18446744073709551615 n=4096 md5=5d41402abc4b2a76b9719d911017c592" ++ line_feed
unfolding digits hex_on_literals
line_of_long_read = refl

-- what a size tells
line_of_size : answer_line (9, answers.Sized 2 65 true) ≡ codes "L 9 ok v=2 n=65 frozen=1" ++ line_feed
unfolding digits
line_of_size = refl

-- what is answered where files are staged, where logs fill and where devices fail
line_of_staged : answer_line (4, answers.Staged 2 11 1) ≡ codes "L 4 ok v=2 n=11 slots=1" ++ line_feed
unfolding digits
line_of_staged = refl

line_of_long_file : answer_line (4, answers.TooBigAt 3) ≡ codes "L 4 toobig v=3" ++ line_feed
unfolding digits
line_of_long_file = refl

line_of_full_log : answer_line (8, answers.NoSpace 1 0) ≡ codes "L 8 nospace need=1 free=0" ++ line_feed
unfolding digits
line_of_full_log = refl

line_of_failed_device : answer_line (3, answers.DevFault 0) ≡ codes "L 3 devfault r=0" ++ line_feed
unfolding digits
line_of_failed_device = refl

-- a path where nothing was committed has no line after it
line_of_empty_journal : journal_line (path_a, []) ≡ codes "J /unifyfs/a" ++ line_feed
line_of_empty_journal = refl

-- a file that is not there
line_of_no_file : file_line (path_a, states.Gone) ≡ codes "F /unifyfs/a none" ++ line_feed
line_of_no_file = refl

-- a frozen file
line_of_frozen_file : file_line (path_a, states.Whole 5 true hello_digest)
    ≡ codes "F /unifyfs/a n=5 frozen=1 md5=5d41402abc4b2a76b9719d911017c592" ++ line_feed
unfolding digits hex_on_literals
line_of_frozen_file = refl

-- a file whose bytes were not read
line_of_unread_file : file_line (path_a, states.Unread 3 false 0) ≡ codes "F /unifyfs/a n=3 frozen=0 devfault r=0" ++ line_feed
unfolding digits
line_of_unread_file = refl

-- the last client of the most that there can be, with all of the shared memory
line_of_slots : slot_line (record { rank = 63; held = 65536; free = 0; faults = 12 })
    ≡ codes "S 63 held=65536 free=0 faults=12" ++ line_feed
unfolding digits
line_of_slots = refl

-- ---- outside what is printable, two reports can have one text

-- a path with a space
line_of_two_journals : journal_line (path_a ++ codes " 2", []) ≡ journal_line (path_a, 2 ∷ [])
unfolding digits
line_of_two_journals = refl

-- a journal with no file
line_left_out : path_lines ((path_a, 2 ∷ []) ∷ []) [] ≡ path_lines [] []
line_left_out = refl
