-- Staff files, and what browsers send, worked by hand.
use Rattle.std.specs.Prelude.{◌≡◌, ℕ, true, false, List, Some, None, Ok, Err, [], ◌∷◌, ◌++◌, codes, refl}
use Rattle.std.specs.Fmt.{digits}
use Rattle.std.specs.Str.{chars}
use Rattle.hex.proofs.OnLiterals.{hex_on_literals}
use Rattle.base64.proofs.OnLiterals.{base64_on_literals}
use Rattle.pay_clerks.specs.Clerks.{ClerkOf}
use Rattle.pay_clerks.specs.Credentials.{credentials_of}
use Rattle.pay_clerks.specs.Files.{clerks_of_text}
use Rattle.pay_clerks.specs.Found.{is_clerk}
use Rattle.pay_clerks.specs.Lines.{clerk_of_line, digest_of, if_name, limit_of, staff_of}
use Rattle.pay_clerks.specs.Parts.{parted}
use Rattle.pay_clerks.specs.declared.fault.ClerksFault.TheVariants.{Line, Repeated}

-- ---- the words of a line

first_staff : staff_of (codes "1") ≡ Some 1
unfolding digits
first_staff = refl

last_staff : staff_of (codes "65535") ≡ Some 65_535
unfolding digits
last_staff = refl

staff_0 : staff_of (codes "0") ≡ None
staff_0 = refl

staff_65536 : staff_of (codes "65536") ≡ None
staff_65536 = refl

no_limit : limit_of (codes "0") ≡ Some 0
unfolding digits
no_limit = refl

greatest_limit : limit_of (codes "100000") ≡ Some 100_000
unfolding digits
greatest_limit = refl

above_it : limit_of (codes "100001") ≡ None
above_it = refl

-- 64 digits are the 32 bytes from 1 to 32
abbrev secret_digits : List ℕ
secret_digits = codes "0102030405060708090a0b0c0d0e0f101112131415161718191a1b1c1d1e1f20"

abbrev secret : List ℕ
secret = 1 ∷ 2 ∷ 3 ∷ 4 ∷ 5 ∷ 6 ∷ 7 ∷ 8 ∷ 9 ∷ 10 ∷ 11 ∷ 12 ∷ 13 ∷ 14 ∷ 15 ∷ 16 ∷ 17 ∷ 18 ∷ 19 ∷ 20 ∷ 21 ∷ 22 ∷ 23 ∷ 24 ∷ 25 ∷ 26 ∷ 27 ∷ 28 ∷ 29 ∷ 30 ∷ 31 ∷ 32 ∷ []

one_to_32 : digest_of secret_digits ≡ Some secret
unfolding hex_on_literals
one_to_32 = refl

a_capital : digest_of (codes "0102030405060708090A0b0c0d0e0f101112131415161718191a1b1c1d1e1f20") ≡ None
a_capital = refl

two_digits_less : digest_of (codes "0102030405060708090a0b0c0d0e0f101112131415161718191a1b1c1d1e1f") ≡ None
two_digits_less = refl

another_letter : digest_of (codes "0102030405060708090g0b0c0d0e0f101112131415161718191a1b1c1d1e1f20") ≡ None
unfolding hex_on_literals
another_letter = refl

-- ---- what is a name

-- sixteen characters, of which the second has two bytes
abbrev sixteen : List ℕ
sixteen = codes "J" ++ 0xC3 ∷ 0xBC ∷ codes "rgen Schneider"

sixty_four : if_name (sixteen ++ sixteen ++ sixteen ++ sixteen) ≡ Some (sixteen ++ sixteen ++ sixteen ++ sixteen)
unfolding chars
sixty_four = refl

sixty_five : if_name (sixteen ++ sixteen ++ sixteen ++ sixteen ++ codes "x") ≡ None
unfolding chars
sixty_five = refl

two_spaces : if_name (codes "Ann  Smith") ≡ None
unfolding chars
two_spaces = refl

space_first : if_name (codes " Ann") ≡ None
unfolding chars
space_first = refl

space_last : if_name (codes "Ann ") ≡ None
unfolding chars
space_last = refl

nothing : if_name [] ≡ None
unfolding chars
nothing = refl

a_tab : if_name (codes "Ann\tSmith") ≡ None
unfolding chars
a_tab = refl

-- ---- a line

abbrev ann : ClerkOf
ann = record { staff = 17; limit = 5_000; secret = secret; name = codes "Ann Smith" }

abbrev line_of_ann : List ℕ
line_of_ann = codes "17 5000 " ++ secret_digits ++ codes " Ann Smith"

of_ann : clerk_of_line line_of_ann ≡ Some ann
unfolding chars digits hex_on_literals parted
of_ann = refl

-- the end of a line of another system is a control character
carriage_return : clerk_of_line (line_of_ann ++ 13 ∷ []) ≡ None
unfolding chars digits hex_on_literals parted
carriage_return = refl

space_before : clerk_of_line (codes " " ++ line_of_ann) ≡ None
unfolding chars digits hex_on_literals parted
space_before = refl

two_between : clerk_of_line (codes "17  5000 " ++ secret_digits ++ codes " Ann") ≡ None
unfolding chars digits hex_on_literals parted
two_between = refl

without_a_name : clerk_of_line (codes "17 5000 " ++ secret_digits) ≡ None
unfolding chars digits hex_on_literals parted
without_a_name = refl

-- ---- a file

abbrev bob : ClerkOf
bob = record { staff = 9; limit = 0; secret = secret; name = codes "Bob" }

abbrev line_of_bob : List ℕ
line_of_bob = codes "9 0 " ++ secret_digits ++ codes " Bob"

two_clerks : clerks_of_text (codes "# clerks\n" ++ line_of_ann ++ codes "\n\n" ++ line_of_bob ++ codes "\n") ≡ Ok (ann ∷ bob ∷ [])
unfolding chars digits hex_on_literals parted
two_clerks = refl

no_clerks : clerks_of_text [] ≡ Ok []
no_clerks = refl

bad_line : clerks_of_text (codes "# clerks\n" ++ line_of_ann ++ codes "\n\nBob\n" ++ line_of_ann) ≡ Err (Line 4)
unfolding chars digits hex_on_literals parted
bad_line = refl

repeated : clerks_of_text (line_of_ann ++ codes "\n" ++ line_of_bob ++ codes "\n" ++ line_of_ann ++ codes "\nBob") ≡ Err (Repeated 3)
unfolding chars digits hex_on_literals parted
repeated = refl

-- ---- what a browser sends, in base64 as other programs have it

by_both : credentials_of (codes "Basic MTc6b3BlbiBzZXNhbWU=") ≡ Some (codes "17", codes "open sesame")
unfolding base64_on_literals parted
by_both = refl

-- `17:a:b`: the secret has a colon
second_colon : credentials_of (codes "Basic MTc6YTpi") ≡ Some (codes "17", codes "a:b")
unfolding base64_on_literals parted
second_colon = refl

-- `17:`
empty_secret : credentials_of (codes "Basic MTc6") ≡ Some (codes "17", [])
unfolding base64_on_literals parted
empty_secret = refl

-- `17`
no_colon : credentials_of (codes "Basic MTc=") ≡ None
unfolding base64_on_literals parted
no_colon = refl

no_padding : credentials_of (codes "Basic MTc6b3BlbiBzZXNhbWU") ≡ None
unfolding base64_on_literals parted
no_padding = refl

another_scheme : credentials_of (codes "Bearer MTc6b3BlbiBzZXNhbWU=") ≡ None
another_scheme = refl

no_scheme : credentials_of (codes "MTc6b3BlbiBzZXNhbWU=") ≡ None
no_scheme = refl

-- ---- whose they are

of_17 : is_clerk (codes "17") secret ann ≡ true
unfolding digits
of_17 = refl

-- another spelling of the number
of_017 : is_clerk (codes "017") secret ann ≡ false
unfolding digits
of_017 = refl

of_another_secret : is_clerk (codes "17") (0 ∷ []) ann ≡ false
unfolding digits
of_another_secret = refl
