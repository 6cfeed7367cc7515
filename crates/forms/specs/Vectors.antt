-- Records computed from the definitions, in both forms: F(6) and I(6) as in docs/RULES.md, the widths at their edges,
-- and refusals.
use Rattle.std.specs.Prelude.{ℕ, ◌-◌, ◌^◌, ◌≡◌, refl, List, [], ◌∷◌, ◌++◌, map, set, take, ℤ, pos, negsuc}
use Rattle.definitions.specs.Codes.{DONE, KIND, INDEX, SHORT, OVER, CUT, MARK, WIDTH, RKIND, RWIDTH, RINDEX, RCOUNT}
use Rattle.definitions.specs.Codes.{UNEVEN}
use Rattle.definitions.specs.Numbers.{some_to, count_to, divides, share_factor, phi}
use Rattle.definitions.specs.Polynomials.{degree}
use Rattle.definitions.specs.Requests.{known_kind, good_index}
use Rattle.definitions.specs.Answer.{height_of}
use Rattle.widths.specs.Numbers.{bytes_of, number, top, twos, signed_of, body, coefficients_at, one_of, least_of, width}
use Rattle.record.specs.Header.{header_of, marked, degree_in, field_code, header_code, byte_of}
use Rattle.definitions.specs.Series.{firsts}
use Rattle.definitions.specs.Steps.{entries}
use Rattle.definitions.specs.Integers.{◌⊕◌, ⊖}
use Rattle.definitions.specs.Halves.{first_half, negates, mirrored_up, rebuilt, differ, uneven_to, uneven, middle_wrong}
use Rattle.forms.specs.declared.Written.{Written}
use Rattle.forms.specs.declared.Form.TheVariants.{Whole, Half}
use Rattle.forms.specs.Format.{record_of, size, write_code, write_tells, write_answer, stored_in, coefficients_in}
use Rattle.forms.specs.Format.{size_in, read_code, read_tells, read_answer}

-- F(6): C9 50 01 01 06 00 03 00 00 00 01 FF 01
F6 : List ℕ
F6 = 0xC9 ∷ 0x50 ∷ 1 ∷ 1 ∷ 6 ∷ 0 ∷ 3 ∷ 0 ∷ 0 ∷ 0 ∷ 1 ∷ 0xFF ∷ 1 ∷ []

writes_F6 : record_of Whole 1 6 (pos 1 ∷ negsuc 0 ∷ pos 1 ∷ []) ≡ F6
unfolding F6 record_of header_of body bytes_of twos width least_of top height_of
writes_F6 = refl

reads_F6 : coefficients_in Whole F6 ≡ pos 1 ∷ negsuc 0 ∷ pos 1 ∷ []
unfolding F6 coefficients_in stored_in coefficients_at signed_of number top
reads_F6 = refl

-- the widths at their edges: 127, -127, 128, -128, 2^15 - 1, 2^15, 2^31 - 1, 2^31, 2^63 - 1, -2^63 and nothing
edges :
    map (λ (c : ℤ). width (c ∷ []))
    (pos 127 ∷ negsuc 126 ∷ pos 128 ∷ negsuc 127 ∷ pos (2 ^ 15 - 1) ∷ pos (2 ^ 15) ∷ pos (2 ^ 31 - 1) ∷ pos
    (2 ^ 31) ∷ pos (2 ^ 63 - 1) ∷ negsuc (2 ^ 63 - 1) ∷ [])
    ≡ 1 ∷ 1 ∷ 2 ∷ 2 ∷ 2 ∷ 4 ∷ 4 ∷ 8 ∷ 8 ∷ 0 ∷ []
unfolding width least_of top height_of
edges = refl

-- F(6)'s record read, by the number of entries lent: 3, 2
by_entries : map (read_code Whole F6) (3 ∷ 2 ∷ []) ≡ DONE ∷ SHORT ∷ []
unfolding F6 read_code header_code marked field_code known_kind one_of degree_in degree phi count_to share_factor some_to
    divides stored_in size_in coefficients_at signed_of number top width least_of height_of
by_entries = refl

-- the code and the byte that bytes read into 3 entries get
said : List ℕ → ℕ × ℕ
said bytes = ((read_answer Whole bytes 3).code, (read_answer Whole bytes 3).byte)

-- the same record with one byte changed: marks, kind, width 2 and 3, index 0, count, and -128 for the 1 at the end;
-- then cut after its 12th and its 9th byte
damaged :
    map said (set F6 0 0xC8 ∷ set F6 1 0x51 ∷ set F6 2 3 ∷ set F6 3 2 ∷ set F6 3 3 ∷ set F6 4 0 ∷ set F6 6 2
    ∷ set F6 12 128 ∷ take 12 F6 ∷ take 9 F6 ∷ [])
    ≡ (MARK, 0) ∷ (MARK, 0) ∷ (RKIND, 2) ∷ (CUT, 0) ∷ (RWIDTH, 3) ∷ (RINDEX, 4) ∷ (RCOUNT, 6) ∷ (WIDTH, 0) ∷ (CUT, 0)
    ∷ (CUT, 0) ∷ []
unfolding said F6 read_answer read_tells byte_of read_code header_code marked field_code known_kind one_of degree_in
    degree phi count_to share_factor some_to divides stored_in size_in coefficients_at signed_of number top width least_of
    height_of
damaged = refl

-- two fields changed: kind and width, width and index, index and count; then the count, and cut
both-wrong :
    map said (set (set F6 2 0) 3 0 ∷ set (set F6 3 5) 4 0 ∷ set (set F6 4 0) 6 2 ∷ set (take 12 F6) 9 1 ∷ [])
    ≡ (RKIND, 2) ∷ (RWIDTH, 3) ∷ (RINDEX, 4) ∷ (RCOUNT, 6) ∷ []
unfolding said F6 read_answer read_tells byte_of read_code header_code marked field_code known_kind one_of degree_in
    degree phi count_to share_factor some_to divides number
both-wrong = refl

-- three coefficients written at kind 1 and index 6 in 13 bytes: F(6)'s; with a 128, which takes 16 bytes; with -2^63
written :
    map (λ (c : ℤ). write_code Whole 1 6 (pos 1 ∷ c ∷ pos 1 ∷ []) 13) (negsuc 0 ∷ pos 128 ∷ negsuc (2 ^ 63 - 1) ∷ [])
    ≡ DONE ∷ SHORT ∷ OVER ∷ []
unfolding write_code known_kind good_index degree phi count_to share_factor some_to divides size width least_of top height_of
written = refl

-- and by kind and index, and with one coefficient too few for the degree
refused :
    map {B = ℕ × ℕ} (λ (r : Written). (r.code, r.byte))
    (write_answer Whole 3 6 (pos 1 ∷ []) 13 ∷ write_answer Whole 1 0 (pos 1 ∷ []) 13
    ∷ write_answer Whole 1 65536 (pos 1 ∷ []) 13 ∷ write_answer Whole 1 6 (pos 1 ∷ pos 1 ∷ []) 13 ∷ [])
    ≡ (KIND, 0) ∷ (INDEX, 0) ∷ (INDEX, 0) ∷ (RCOUNT, 6) ∷ []
unfolding write_answer write_tells byte_of write_code known_kind good_index degree phi count_to share_factor some_to divides
refused = refl

-- half records: F(6), whose middle is copied, C9 51 01 01 06 00 03 00 00 00 01 FF; I(6), -1 -1 0 1 1, which is negated
-- about a middle of 0, C9 51 02 01 06 00 05 00 00 00 FF FF 00; F(1), negated, with no middle
half_f6 : List ℕ
half_f6 = 0xC9 ∷ 0x51 ∷ 1 ∷ 1 ∷ 6 ∷ 0 ∷ 3 ∷ 0 ∷ 0 ∷ 0 ∷ 1 ∷ 0xFF ∷ []

I6 : List ℤ
I6 = negsuc 0 ∷ negsuc 0 ∷ pos 0 ∷ pos 1 ∷ pos 1 ∷ []

half_i6 : List ℕ
half_i6 = 0xC9 ∷ 0x51 ∷ 2 ∷ 1 ∷ 6 ∷ 0 ∷ 5 ∷ 0 ∷ 0 ∷ 0 ∷ 0xFF ∷ 0xFF ∷ 0 ∷ []

half_f1 : List ℕ
half_f1 = 0xC9 ∷ 0x51 ∷ 1 ∷ 1 ∷ 1 ∷ 0 ∷ 2 ∷ 0 ∷ 0 ∷ 0 ∷ 0xFF ∷ []

writes-halves :
    record_of Half 1 6 (pos 1 ∷ negsuc 0 ∷ pos 1 ∷ []) ∷ record_of Half 2 6 I6 ∷ record_of Half 1 1 (negsuc 0 ∷ pos 1 ∷ [])
    ∷ [] ≡ half_f6 ∷ half_i6 ∷ half_f1 ∷ []
unfolding half_f6 half_i6 half_f1 I6 record_of first_half header_of body bytes_of twos width least_of top height_of
writes-halves = refl

reads-halves :
    map (coefficients_in Half) (half_f6 ∷ half_i6 ∷ half_f1 ∷ [])
    ≡ (pos 1 ∷ negsuc 0 ∷ pos 1 ∷ []) ∷ I6 ∷ (negsuc 0 ∷ pos 1 ∷ []) ∷ []
unfolding half_f6 half_i6 half_f1 I6 coefficients_in rebuilt firsts mirrored_up negates entries ⊖ stored_in coefficients_at
    signed_of number top
reads-halves = refl

-- the half record of I(6) read into 5 entries: as it is, with a middle of 1, with one in two bytes each, with the mark
-- of the whole form, and cut before its middle; and into 4 entries with a middle of 1
halves-damaged :
    map (λ (bytes : List ℕ). read_code Half bytes 5)
    (half_i6 ∷ set half_i6 12 1 ∷ (set (set half_i6 3 2) 12 1 ++ (0 ∷ 1 ∷ 0 ∷ [])) ∷ set half_i6 1 0x50
    ∷ take 12 half_i6 ∷ [])
    ++ read_code Half (set half_i6 12 1) 4 ∷ []
    ≡ DONE ∷ UNEVEN ∷ WIDTH ∷ MARK ∷ CUT ∷ SHORT ∷ []
unfolding half_i6 read_code header_code marked field_code known_kind one_of degree_in degree phi count_to share_factor some_to
    divides stored_in size_in coefficients_at signed_of number top width least_of height_of middle_wrong negates entries
halves-damaged = refl

-- written to 13 bytes: I(6); with a middle of 1; the same with -2^63 at its end; one side changed; and I(6) to 12 bytes
halves-refused :
    map (λ (cs : List ℤ). write_code Half 2 6 cs 13)
    (I6 ∷ set I6 2 (pos 1) ∷ set (set I6 2 (pos 1)) 4 (negsuc (2 ^ 63 - 1))
    ∷ set I6 4 (negsuc 0) ∷ []) ++ write_code Half 2 6 I6 12 ∷ []
    ≡ DONE ∷ UNEVEN ∷ OVER ∷ UNEVEN ∷ SHORT ∷ []
unfolding I6 write_code known_kind good_index degree phi count_to share_factor some_to divides size width least_of top height_of
    uneven uneven_to differ negates entries ⊖ ◌⊕◌
halves-refused = refl
