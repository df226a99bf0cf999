-- `high::high` meets its contract: each arm's words are the seed rule's for its value. Made by tools/make-hash-table.
use Rattle.std.proofs.Common.{arith, ◌≡◌}
use Rattle.rules.specs.Hash.{hash}
use Rattle.rules.specs.Samples.{house}
use Rattle.hash_rules.specs.Words.{four_hashes, high_words}
use Rattle.hash_rules.proofs.Arms.{arm}
use Rattle.hash.proofs.high.high.Goals as goal

pub returns-in-0 : goal.returns-in-0
unfolding four_hashes hash house
returns-in-0 c = arm high_words c.in-0.is tt

pub returns-in-1 : goal.returns-in-1
unfolding four_hashes hash house
returns-in-1 c = arm high_words c.in-1.is tt

pub returns-in-2 : goal.returns-in-2
unfolding four_hashes hash house
returns-in-2 c = arm high_words c.in-2.is tt

pub returns-in-3 : goal.returns-in-3
unfolding four_hashes hash house
returns-in-3 c = arm high_words c.in-3.is tt

pub returns-in-4 : goal.returns-in-4
unfolding four_hashes hash house
returns-in-4 c = arm high_words c.in-4.is tt

pub returns-in-5 : goal.returns-in-5
unfolding four_hashes hash house
returns-in-5 c = arm high_words c.in-5.is tt

pub returns-in-6 : goal.returns-in-6
unfolding four_hashes hash house
returns-in-6 c = arm high_words c.in-6.is tt

pub returns-in-7 : goal.returns-in-7
unfolding four_hashes hash house
returns-in-7 c = arm high_words c.in-7.is tt

pub returns-in-8 : goal.returns-in-8
unfolding four_hashes hash house
returns-in-8 c = arm high_words c.in-8.is tt

pub returns-in-9 : goal.returns-in-9
unfolding four_hashes hash house
returns-in-9 c = arm high_words c.in-9.is tt

pub returns-in-10 : goal.returns-in-10
unfolding four_hashes hash house
returns-in-10 c = arm high_words c.in-10.is tt

pub returns-in-11 : goal.returns-in-11
unfolding four_hashes hash house
returns-in-11 c = arm high_words c.in-11.is tt

pub returns-in-12 : goal.returns-in-12
unfolding four_hashes hash house
returns-in-12 c = arm high_words c.in-12.is tt

pub returns-in-13 : goal.returns-in-13
unfolding four_hashes hash house
returns-in-13 c = arm high_words c.in-13.is tt

pub returns-in-14 : goal.returns-in-14
unfolding four_hashes hash house
returns-in-14 c = arm high_words c.in-14.is tt

pub returns-in-15 : goal.returns-in-15
unfolding four_hashes hash house
returns-in-15 c = arm high_words c.in-15.is tt

pub returns-in-16 : goal.returns-in-16
unfolding four_hashes hash house
returns-in-16 c = arm high_words c.in-16.is tt

pub returns-in-17 : goal.returns-in-17
unfolding four_hashes hash house
returns-in-17 c = arm high_words c.in-17.is tt

pub returns-in-18 : goal.returns-in-18
unfolding four_hashes hash house
returns-in-18 c = arm high_words c.in-18.is tt

pub returns-in-19 : goal.returns-in-19
unfolding four_hashes hash house
returns-in-19 c = arm high_words c.in-19.is tt

pub returns-in-20 : goal.returns-in-20
unfolding four_hashes hash house
returns-in-20 c = arm high_words c.in-20.is tt

pub returns-in-21 : goal.returns-in-21
unfolding four_hashes hash house
returns-in-21 c = arm high_words c.in-21.is tt

pub returns-in-22 : goal.returns-in-22
unfolding four_hashes hash house
returns-in-22 c = arm high_words c.in-22.is tt

pub returns-in-23 : goal.returns-in-23
unfolding four_hashes hash house
returns-in-23 c = arm high_words c.in-23.is tt

pub returns-in-24 : goal.returns-in-24
unfolding four_hashes hash house
returns-in-24 c = arm high_words c.in-24.is tt

pub returns-in-25 : goal.returns-in-25
unfolding four_hashes hash house
returns-in-25 c = arm high_words c.in-25.is tt

pub returns-in-26 : goal.returns-in-26
unfolding four_hashes hash house
returns-in-26 c = arm high_words c.in-26.is tt

pub returns-in-27 : goal.returns-in-27
unfolding four_hashes hash house
returns-in-27 c = arm high_words c.in-27.is tt

pub returns-in-28 : goal.returns-in-28
unfolding four_hashes hash house
returns-in-28 c = arm high_words c.in-28.is tt

pub returns-in-29 : goal.returns-in-29
unfolding four_hashes hash house
returns-in-29 c = arm high_words c.in-29.is tt

pub returns-in-30 : goal.returns-in-30
unfolding four_hashes hash house
returns-in-30 c = arm high_words c.in-30.is tt

pub returns-in-31 : goal.returns-in-31
unfolding four_hashes hash house
returns-in-31 c = arm high_words c.in-31.is tt

pub returns-in-32 : goal.returns-in-32
unfolding four_hashes hash house
returns-in-32 c = arm high_words c.in-32.is tt

pub returns-in-33 : goal.returns-in-33
unfolding four_hashes hash house
returns-in-33 c = arm high_words c.in-33.is tt

pub returns-in-34 : goal.returns-in-34
unfolding four_hashes hash house
returns-in-34 c = arm high_words c.in-34.is tt

pub returns-in-35 : goal.returns-in-35
unfolding four_hashes hash house
returns-in-35 c = arm high_words c.in-35.is tt

pub returns-in-36 : goal.returns-in-36
unfolding four_hashes hash house
returns-in-36 c = arm high_words c.in-36.is tt

pub returns-in-37 : goal.returns-in-37
unfolding four_hashes hash house
returns-in-37 c = arm high_words c.in-37.is tt

pub returns-in-38 : goal.returns-in-38
unfolding four_hashes hash house
returns-in-38 c = arm high_words c.in-38.is tt

pub returns-in-39 : goal.returns-in-39
unfolding four_hashes hash house
returns-in-39 c = arm high_words c.in-39.is tt

pub returns-in-40 : goal.returns-in-40
unfolding four_hashes hash house
returns-in-40 c = arm high_words c.in-40.is tt

pub returns-in-41 : goal.returns-in-41
unfolding four_hashes hash house
returns-in-41 c = arm high_words c.in-41.is tt

pub returns-in-42 : goal.returns-in-42
unfolding four_hashes hash house
returns-in-42 c = arm high_words c.in-42.is tt

pub returns-in-43 : goal.returns-in-43
unfolding four_hashes hash house
returns-in-43 c = arm high_words c.in-43.is tt

pub returns-in-44 : goal.returns-in-44
unfolding four_hashes hash house
returns-in-44 c = arm high_words c.in-44.is tt

pub returns-in-45 : goal.returns-in-45
unfolding four_hashes hash house
returns-in-45 c = arm high_words c.in-45.is tt

pub returns-in-46 : goal.returns-in-46
unfolding four_hashes hash house
returns-in-46 c = arm high_words c.in-46.is tt

pub returns-in-47 : goal.returns-in-47
unfolding four_hashes hash house
returns-in-47 c = arm high_words c.in-47.is tt

pub returns-in-48 : goal.returns-in-48
unfolding four_hashes hash house
returns-in-48 c = arm high_words c.in-48.is tt

pub returns-in-49 : goal.returns-in-49
unfolding four_hashes hash house
returns-in-49 c = arm high_words c.in-49.is tt

pub returns-in-50 : goal.returns-in-50
unfolding four_hashes hash house
returns-in-50 c = arm high_words c.in-50.is tt

pub returns-in-51 : goal.returns-in-51
unfolding four_hashes hash house
returns-in-51 c = arm high_words c.in-51.is tt

pub returns-in-52 : goal.returns-in-52
unfolding four_hashes hash house
returns-in-52 c = arm high_words c.in-52.is tt

pub returns-in-53 : goal.returns-in-53
unfolding four_hashes hash house
returns-in-53 c = arm high_words c.in-53.is tt

pub returns-in-54 : goal.returns-in-54
unfolding four_hashes hash house
returns-in-54 c = arm high_words c.in-54.is tt

pub returns-in-55 : goal.returns-in-55
unfolding four_hashes hash house
returns-in-55 c = arm high_words c.in-55.is tt

pub returns-in-56 : goal.returns-in-56
unfolding four_hashes hash house
returns-in-56 c = arm high_words c.in-56.is tt

pub returns-in-57 : goal.returns-in-57
unfolding four_hashes hash house
returns-in-57 c = arm high_words c.in-57.is tt

pub returns-in-58 : goal.returns-in-58
unfolding four_hashes hash house
returns-in-58 c = arm high_words c.in-58.is tt

pub returns-in-59 : goal.returns-in-59
unfolding four_hashes hash house
returns-in-59 c = arm high_words c.in-59.is tt

pub returns-in-60 : goal.returns-in-60
unfolding four_hashes hash house
returns-in-60 c = arm high_words c.in-60.is tt

pub returns-in-61 : goal.returns-in-61
unfolding four_hashes hash house
returns-in-61 c = arm high_words c.in-61.is tt

pub returns-in-62 : goal.returns-in-62
unfolding four_hashes hash house
returns-in-62 c = arm high_words c.in-62.is tt

pub returns-in-63 : goal.returns-in-63
unfolding four_hashes hash house
returns-in-63 c = arm high_words c.in-63.is tt

pub returns-in-64 : goal.returns-in-64
unfolding four_hashes hash house
returns-in-64 c = arm high_words c.in-64.is tt

pub returns-in-65 : goal.returns-in-65
unfolding four_hashes hash house
returns-in-65 c = arm high_words c.in-65.is tt

pub returns-in-66 : goal.returns-in-66
unfolding four_hashes hash house
returns-in-66 c = arm high_words c.in-66.is tt

pub returns-in-67 : goal.returns-in-67
unfolding four_hashes hash house
returns-in-67 c = arm high_words c.in-67.is tt

pub returns-in-68 : goal.returns-in-68
unfolding four_hashes hash house
returns-in-68 c = arm high_words c.in-68.is tt

pub returns-in-69 : goal.returns-in-69
unfolding four_hashes hash house
returns-in-69 c = arm high_words c.in-69.is tt

pub returns-in-70 : goal.returns-in-70
unfolding four_hashes hash house
returns-in-70 c = arm high_words c.in-70.is tt

pub returns-in-71 : goal.returns-in-71
unfolding four_hashes hash house
returns-in-71 c = arm high_words c.in-71.is tt

pub returns-in-72 : goal.returns-in-72
unfolding four_hashes hash house
returns-in-72 c = arm high_words c.in-72.is tt

pub returns-in-73 : goal.returns-in-73
unfolding four_hashes hash house
returns-in-73 c = arm high_words c.in-73.is tt

pub returns-in-74 : goal.returns-in-74
unfolding four_hashes hash house
returns-in-74 c = arm high_words c.in-74.is tt

pub returns-in-75 : goal.returns-in-75
unfolding four_hashes hash house
returns-in-75 c = arm high_words c.in-75.is tt

pub returns-in-76 : goal.returns-in-76
unfolding four_hashes hash house
returns-in-76 c = arm high_words c.in-76.is tt

pub returns-in-77 : goal.returns-in-77
unfolding four_hashes hash house
returns-in-77 c = arm high_words c.in-77.is tt

pub returns-in-78 : goal.returns-in-78
unfolding four_hashes hash house
returns-in-78 c = arm high_words c.in-78.is tt

pub returns-in-79 : goal.returns-in-79
unfolding four_hashes hash house
returns-in-79 c = arm high_words c.in-79.is tt

pub returns-in-80 : goal.returns-in-80
unfolding four_hashes hash house
returns-in-80 c = arm high_words c.in-80.is tt

pub returns-in-81 : goal.returns-in-81
unfolding four_hashes hash house
returns-in-81 c = arm high_words c.in-81.is tt

pub returns-in-82 : goal.returns-in-82
unfolding four_hashes hash house
returns-in-82 c = arm high_words c.in-82.is tt

pub returns-in-83 : goal.returns-in-83
unfolding four_hashes hash house
returns-in-83 c = arm high_words c.in-83.is tt

pub returns-in-84 : goal.returns-in-84
unfolding four_hashes hash house
returns-in-84 c = arm high_words c.in-84.is tt

pub returns-in-85 : goal.returns-in-85
unfolding four_hashes hash house
returns-in-85 c = arm high_words c.in-85.is tt

pub returns-in-86 : goal.returns-in-86
unfolding four_hashes hash house
returns-in-86 c = arm high_words c.in-86.is tt

pub returns-in-87 : goal.returns-in-87
unfolding four_hashes hash house
returns-in-87 c = arm high_words c.in-87.is tt

pub returns-in-88 : goal.returns-in-88
unfolding four_hashes hash house
returns-in-88 c = arm high_words c.in-88.is tt

pub returns-in-89 : goal.returns-in-89
unfolding four_hashes hash house
returns-in-89 c = arm high_words c.in-89.is tt

pub returns-in-90 : goal.returns-in-90
unfolding four_hashes hash house
returns-in-90 c = arm high_words c.in-90.is tt

pub returns-in-91 : goal.returns-in-91
unfolding four_hashes hash house
returns-in-91 c = arm high_words c.in-91.is tt

pub returns-in-92 : goal.returns-in-92
unfolding four_hashes hash house
returns-in-92 c = arm high_words c.in-92.is tt

pub returns-in-93 : goal.returns-in-93
unfolding four_hashes hash house
returns-in-93 c = arm high_words c.in-93.is tt

pub returns-in-94 : goal.returns-in-94
unfolding four_hashes hash house
returns-in-94 c = arm high_words c.in-94.is tt

pub returns-in-95 : goal.returns-in-95
unfolding four_hashes hash house
returns-in-95 c = arm high_words c.in-95.is tt

pub returns-in-96 : goal.returns-in-96
unfolding four_hashes hash house
returns-in-96 c = arm high_words c.in-96.is tt

pub returns-in-97 : goal.returns-in-97
unfolding four_hashes hash house
returns-in-97 c = arm high_words c.in-97.is tt

pub returns-in-98 : goal.returns-in-98
unfolding four_hashes hash house
returns-in-98 c = arm high_words c.in-98.is tt

pub returns-in-99 : goal.returns-in-99
unfolding four_hashes hash house
returns-in-99 c = arm high_words c.in-99.is tt

pub returns-in-100 : goal.returns-in-100
unfolding four_hashes hash house
returns-in-100 c = arm high_words c.in-100.is tt

pub returns-in-101 : goal.returns-in-101
unfolding four_hashes hash house
returns-in-101 c = arm high_words c.in-101.is tt

pub returns-in-102 : goal.returns-in-102
unfolding four_hashes hash house
returns-in-102 c = arm high_words c.in-102.is tt

pub returns-in-103 : goal.returns-in-103
unfolding four_hashes hash house
returns-in-103 c = arm high_words c.in-103.is tt

pub returns-in-104 : goal.returns-in-104
unfolding four_hashes hash house
returns-in-104 c = arm high_words c.in-104.is tt

pub returns-in-105 : goal.returns-in-105
unfolding four_hashes hash house
returns-in-105 c = arm high_words c.in-105.is tt

pub returns-in-106 : goal.returns-in-106
unfolding four_hashes hash house
returns-in-106 c = arm high_words c.in-106.is tt

pub returns-in-107 : goal.returns-in-107
unfolding four_hashes hash house
returns-in-107 c = arm high_words c.in-107.is tt

pub returns-in-108 : goal.returns-in-108
unfolding four_hashes hash house
returns-in-108 c = arm high_words c.in-108.is tt

pub returns-in-109 : goal.returns-in-109
unfolding four_hashes hash house
returns-in-109 c = arm high_words c.in-109.is tt

pub returns-in-110 : goal.returns-in-110
unfolding four_hashes hash house
returns-in-110 c = arm high_words c.in-110.is tt

pub returns-in-111 : goal.returns-in-111
unfolding four_hashes hash house
returns-in-111 c = arm high_words c.in-111.is tt

pub returns-in-112 : goal.returns-in-112
unfolding four_hashes hash house
returns-in-112 c = arm high_words c.in-112.is tt

pub returns-in-113 : goal.returns-in-113
unfolding four_hashes hash house
returns-in-113 c = arm high_words c.in-113.is tt

pub returns-in-114 : goal.returns-in-114
unfolding four_hashes hash house
returns-in-114 c = arm high_words c.in-114.is tt

pub returns-in-115 : goal.returns-in-115
unfolding four_hashes hash house
returns-in-115 c = arm high_words c.in-115.is tt

pub returns-in-116 : goal.returns-in-116
unfolding four_hashes hash house
returns-in-116 c = arm high_words c.in-116.is tt

pub returns-in-117 : goal.returns-in-117
unfolding four_hashes hash house
returns-in-117 c = arm high_words c.in-117.is tt

pub returns-in-118 : goal.returns-in-118
unfolding four_hashes hash house
returns-in-118 c = arm high_words c.in-118.is tt

pub returns-in-119 : goal.returns-in-119
unfolding four_hashes hash house
returns-in-119 c = arm high_words c.in-119.is tt

pub returns-in-120 : goal.returns-in-120
unfolding four_hashes hash house
returns-in-120 c = arm high_words c.in-120.is tt

pub returns-in-121 : goal.returns-in-121
unfolding four_hashes hash house
returns-in-121 c = arm high_words c.in-121.is tt

pub returns-in-122 : goal.returns-in-122
unfolding four_hashes hash house
returns-in-122 c = arm high_words c.in-122.is tt

pub returns-in-123 : goal.returns-in-123
unfolding four_hashes hash house
returns-in-123 c = arm high_words c.in-123.is tt

pub returns-in-124 : goal.returns-in-124
unfolding four_hashes hash house
returns-in-124 c = arm high_words c.in-124.is tt

pub returns-in-125 : goal.returns-in-125
unfolding four_hashes hash house
returns-in-125 c = arm high_words c.in-125.is tt

pub returns-in-126 : goal.returns-in-126
unfolding four_hashes hash house
returns-in-126 c = arm high_words c.in-126.is tt

pub returns-in-127 : goal.returns-in-127
unfolding four_hashes hash house
returns-in-127 c = arm high_words c.in-127.is tt

pub returns-in-128 : goal.returns-in-128
unfolding four_hashes hash house
returns-in-128 c = arm high_words c.in-128.is tt

pub returns-in-129 : goal.returns-in-129
unfolding four_hashes hash house
returns-in-129 c = arm high_words c.in-129.is tt

pub returns-in-130 : goal.returns-in-130
unfolding four_hashes hash house
returns-in-130 c = arm high_words c.in-130.is tt

pub returns-in-131 : goal.returns-in-131
unfolding four_hashes hash house
returns-in-131 c = arm high_words c.in-131.is tt

pub returns-in-132 : goal.returns-in-132
unfolding four_hashes hash house
returns-in-132 c = arm high_words c.in-132.is tt

pub returns-in-133 : goal.returns-in-133
unfolding four_hashes hash house
returns-in-133 c = arm high_words c.in-133.is tt

pub returns-in-134 : goal.returns-in-134
unfolding four_hashes hash house
returns-in-134 c = arm high_words c.in-134.is tt

pub returns-in-135 : goal.returns-in-135
unfolding four_hashes hash house
returns-in-135 c = arm high_words c.in-135.is tt

pub returns-in-136 : goal.returns-in-136
unfolding four_hashes hash house
returns-in-136 c = arm high_words c.in-136.is tt

pub returns-in-137 : goal.returns-in-137
unfolding four_hashes hash house
returns-in-137 c = arm high_words c.in-137.is tt

pub returns-in-138 : goal.returns-in-138
unfolding four_hashes hash house
returns-in-138 c = arm high_words c.in-138.is tt

pub returns-in-139 : goal.returns-in-139
unfolding four_hashes hash house
returns-in-139 c = arm high_words c.in-139.is tt

pub returns-in-140 : goal.returns-in-140
unfolding four_hashes hash house
returns-in-140 c = arm high_words c.in-140.is tt

pub returns-in-141 : goal.returns-in-141
unfolding four_hashes hash house
returns-in-141 c = arm high_words c.in-141.is tt

pub returns-in-142 : goal.returns-in-142
unfolding four_hashes hash house
returns-in-142 c = arm high_words c.in-142.is tt

pub returns-in-143 : goal.returns-in-143
unfolding four_hashes hash house
returns-in-143 c = arm high_words c.in-143.is tt

pub returns-in-144 : goal.returns-in-144
unfolding four_hashes hash house
returns-in-144 c = arm high_words c.in-144.is tt

pub returns-in-145 : goal.returns-in-145
unfolding four_hashes hash house
returns-in-145 c = arm high_words c.in-145.is tt

pub returns-in-146 : goal.returns-in-146
unfolding four_hashes hash house
returns-in-146 c = arm high_words c.in-146.is tt

pub returns-in-147 : goal.returns-in-147
unfolding four_hashes hash house
returns-in-147 c = arm high_words c.in-147.is tt

pub returns-in-148 : goal.returns-in-148
unfolding four_hashes hash house
returns-in-148 c = arm high_words c.in-148.is tt

pub returns-in-149 : goal.returns-in-149
unfolding four_hashes hash house
returns-in-149 c = arm high_words c.in-149.is tt

pub returns-in-150 : goal.returns-in-150
unfolding four_hashes hash house
returns-in-150 c = arm high_words c.in-150.is tt

pub returns-in-151 : goal.returns-in-151
unfolding four_hashes hash house
returns-in-151 c = arm high_words c.in-151.is tt

pub returns-in-152 : goal.returns-in-152
unfolding four_hashes hash house
returns-in-152 c = arm high_words c.in-152.is tt

pub returns-in-153 : goal.returns-in-153
unfolding four_hashes hash house
returns-in-153 c = arm high_words c.in-153.is tt

pub returns-in-154 : goal.returns-in-154
unfolding four_hashes hash house
returns-in-154 c = arm high_words c.in-154.is tt

pub returns-in-155 : goal.returns-in-155
unfolding four_hashes hash house
returns-in-155 c = arm high_words c.in-155.is tt

pub returns-in-156 : goal.returns-in-156
unfolding four_hashes hash house
returns-in-156 c = arm high_words c.in-156.is tt

pub returns-in-157 : goal.returns-in-157
unfolding four_hashes hash house
returns-in-157 c = arm high_words c.in-157.is tt

pub returns-in-158 : goal.returns-in-158
unfolding four_hashes hash house
returns-in-158 c = arm high_words c.in-158.is tt

pub returns-in-159 : goal.returns-in-159
unfolding four_hashes hash house
returns-in-159 c = arm high_words c.in-159.is tt

pub returns-in-160 : goal.returns-in-160
unfolding four_hashes hash house
returns-in-160 c = arm high_words c.in-160.is tt

pub returns-in-161 : goal.returns-in-161
unfolding four_hashes hash house
returns-in-161 c = arm high_words c.in-161.is tt

pub returns-in-162 : goal.returns-in-162
unfolding four_hashes hash house
returns-in-162 c = arm high_words c.in-162.is tt

pub returns-in-163 : goal.returns-in-163
unfolding four_hashes hash house
returns-in-163 c = arm high_words c.in-163.is tt

pub returns-in-164 : goal.returns-in-164
unfolding four_hashes hash house
returns-in-164 c = arm high_words c.in-164.is tt

pub returns-in-165 : goal.returns-in-165
unfolding four_hashes hash house
returns-in-165 c = arm high_words c.in-165.is tt

pub returns-in-166 : goal.returns-in-166
unfolding four_hashes hash house
returns-in-166 c = arm high_words c.in-166.is tt

pub returns-in-167 : goal.returns-in-167
unfolding four_hashes hash house
returns-in-167 c = arm high_words c.in-167.is tt

pub returns-in-168 : goal.returns-in-168
unfolding four_hashes hash house
returns-in-168 c = arm high_words c.in-168.is tt

pub returns-in-169 : goal.returns-in-169
unfolding four_hashes hash house
returns-in-169 c = arm high_words c.in-169.is tt

pub returns-in-170 : goal.returns-in-170
unfolding four_hashes hash house
returns-in-170 c = arm high_words c.in-170.is tt

pub returns-in-171 : goal.returns-in-171
unfolding four_hashes hash house
returns-in-171 c = arm high_words c.in-171.is tt

pub returns-in-172 : goal.returns-in-172
unfolding four_hashes hash house
returns-in-172 c = arm high_words c.in-172.is tt

pub returns-in-173 : goal.returns-in-173
unfolding four_hashes hash house
returns-in-173 c = arm high_words c.in-173.is tt

pub returns-in-174 : goal.returns-in-174
unfolding four_hashes hash house
returns-in-174 c = arm high_words c.in-174.is tt

pub returns-in-175 : goal.returns-in-175
unfolding four_hashes hash house
returns-in-175 c = arm high_words c.in-175.is tt

pub returns-in-176 : goal.returns-in-176
unfolding four_hashes hash house
returns-in-176 c = arm high_words c.in-176.is tt

pub returns-in-177 : goal.returns-in-177
unfolding four_hashes hash house
returns-in-177 c = arm high_words c.in-177.is tt

pub returns-in-178 : goal.returns-in-178
unfolding four_hashes hash house
returns-in-178 c = arm high_words c.in-178.is tt

pub returns-in-179 : goal.returns-in-179
unfolding four_hashes hash house
returns-in-179 c = arm high_words c.in-179.is tt

pub returns-in-180 : goal.returns-in-180
unfolding four_hashes hash house
returns-in-180 c = arm high_words c.in-180.is tt

pub returns-in-181 : goal.returns-in-181
unfolding four_hashes hash house
returns-in-181 c = arm high_words c.in-181.is tt

pub returns-in-182 : goal.returns-in-182
unfolding four_hashes hash house
returns-in-182 c = arm high_words c.in-182.is tt

pub returns-in-183 : goal.returns-in-183
unfolding four_hashes hash house
returns-in-183 c = arm high_words c.in-183.is tt

pub returns-in-184 : goal.returns-in-184
unfolding four_hashes hash house
returns-in-184 c = arm high_words c.in-184.is tt

pub returns-in-185 : goal.returns-in-185
unfolding four_hashes hash house
returns-in-185 c = arm high_words c.in-185.is tt

pub returns-in-186 : goal.returns-in-186
unfolding four_hashes hash house
returns-in-186 c = arm high_words c.in-186.is tt

pub returns-in-187 : goal.returns-in-187
unfolding four_hashes hash house
returns-in-187 c = arm high_words c.in-187.is tt

pub returns-in-188 : goal.returns-in-188
unfolding four_hashes hash house
returns-in-188 c = arm high_words c.in-188.is tt

pub returns-in-189 : goal.returns-in-189
unfolding four_hashes hash house
returns-in-189 c = arm high_words c.in-189.is tt

pub returns-in-190 : goal.returns-in-190
unfolding four_hashes hash house
returns-in-190 c = arm high_words c.in-190.is tt

pub returns-in-191 : goal.returns-in-191
unfolding four_hashes hash house
returns-in-191 c = arm high_words c.in-191.is tt

pub returns-in-192 : goal.returns-in-192
unfolding four_hashes hash house
returns-in-192 c = arm high_words c.in-192.is tt

pub returns-in-193 : goal.returns-in-193
unfolding four_hashes hash house
returns-in-193 c = arm high_words c.in-193.is tt

pub returns-in-194 : goal.returns-in-194
unfolding four_hashes hash house
returns-in-194 c = arm high_words c.in-194.is tt

pub returns-in-195 : goal.returns-in-195
unfolding four_hashes hash house
returns-in-195 c = arm high_words c.in-195.is tt

pub returns-in-196 : goal.returns-in-196
unfolding four_hashes hash house
returns-in-196 c = arm high_words c.in-196.is tt

pub returns-in-197 : goal.returns-in-197
unfolding four_hashes hash house
returns-in-197 c = arm high_words c.in-197.is tt

pub returns-in-198 : goal.returns-in-198
unfolding four_hashes hash house
returns-in-198 c = arm high_words c.in-198.is tt

pub returns-in-199 : goal.returns-in-199
unfolding four_hashes hash house
returns-in-199 c = arm high_words c.in-199.is tt

pub returns-in-200 : goal.returns-in-200
unfolding four_hashes hash house
returns-in-200 c = arm high_words c.in-200.is tt

pub returns-in-201 : goal.returns-in-201
unfolding four_hashes hash house
returns-in-201 c = arm high_words c.in-201.is tt

pub returns-in-202 : goal.returns-in-202
unfolding four_hashes hash house
returns-in-202 c = arm high_words c.in-202.is tt

pub returns-in-203 : goal.returns-in-203
unfolding four_hashes hash house
returns-in-203 c = arm high_words c.in-203.is tt

pub returns-in-204 : goal.returns-in-204
unfolding four_hashes hash house
returns-in-204 c = arm high_words c.in-204.is tt

pub returns-in-205 : goal.returns-in-205
unfolding four_hashes hash house
returns-in-205 c = arm high_words c.in-205.is tt

pub returns-in-206 : goal.returns-in-206
unfolding four_hashes hash house
returns-in-206 c = arm high_words c.in-206.is tt

pub returns-in-207 : goal.returns-in-207
unfolding four_hashes hash house
returns-in-207 c = arm high_words c.in-207.is tt

pub returns-in-208 : goal.returns-in-208
unfolding four_hashes hash house
returns-in-208 c = arm high_words c.in-208.is tt

pub returns-in-209 : goal.returns-in-209
unfolding four_hashes hash house
returns-in-209 c = arm high_words c.in-209.is tt

pub returns-in-210 : goal.returns-in-210
unfolding four_hashes hash house
returns-in-210 c = arm high_words c.in-210.is tt

pub returns-in-211 : goal.returns-in-211
unfolding four_hashes hash house
returns-in-211 c = arm high_words c.in-211.is tt

pub returns-in-212 : goal.returns-in-212
unfolding four_hashes hash house
returns-in-212 c = arm high_words c.in-212.is tt

pub returns-in-213 : goal.returns-in-213
unfolding four_hashes hash house
returns-in-213 c = arm high_words c.in-213.is tt

pub returns-in-214 : goal.returns-in-214
unfolding four_hashes hash house
returns-in-214 c = arm high_words c.in-214.is tt

pub returns-in-215 : goal.returns-in-215
unfolding four_hashes hash house
returns-in-215 c = arm high_words c.in-215.is tt

pub returns-in-216 : goal.returns-in-216
unfolding four_hashes hash house
returns-in-216 c = arm high_words c.in-216.is tt

pub returns-in-217 : goal.returns-in-217
unfolding four_hashes hash house
returns-in-217 c = arm high_words c.in-217.is tt

pub returns-in-218 : goal.returns-in-218
unfolding four_hashes hash house
returns-in-218 c = arm high_words c.in-218.is tt

pub returns-in-219 : goal.returns-in-219
unfolding four_hashes hash house
returns-in-219 c = arm high_words c.in-219.is tt

pub returns-in-220 : goal.returns-in-220
unfolding four_hashes hash house
returns-in-220 c = arm high_words c.in-220.is tt

pub returns-in-221 : goal.returns-in-221
unfolding four_hashes hash house
returns-in-221 c = arm high_words c.in-221.is tt

pub returns-in-222 : goal.returns-in-222
unfolding four_hashes hash house
returns-in-222 c = arm high_words c.in-222.is tt

pub returns-in-223 : goal.returns-in-223
unfolding four_hashes hash house
returns-in-223 c = arm high_words c.in-223.is tt

pub returns-in-224 : goal.returns-in-224
unfolding four_hashes hash house
returns-in-224 c = arm high_words c.in-224.is tt

pub returns-in-225 : goal.returns-in-225
unfolding four_hashes hash house
returns-in-225 c = arm high_words c.in-225.is tt

pub returns-in-226 : goal.returns-in-226
unfolding four_hashes hash house
returns-in-226 c = arm high_words c.in-226.is tt

pub returns-in-227 : goal.returns-in-227
unfolding four_hashes hash house
returns-in-227 c = arm high_words c.in-227.is tt

pub returns-in-228 : goal.returns-in-228
unfolding four_hashes hash house
returns-in-228 c = arm high_words c.in-228.is tt

pub returns-in-229 : goal.returns-in-229
unfolding four_hashes hash house
returns-in-229 c = arm high_words c.in-229.is tt

pub returns-in-230 : goal.returns-in-230
unfolding four_hashes hash house
returns-in-230 c = arm high_words c.in-230.is tt

pub returns-in-231 : goal.returns-in-231
unfolding four_hashes hash house
returns-in-231 c = arm high_words c.in-231.is tt

pub returns-in-232 : goal.returns-in-232
unfolding four_hashes hash house
returns-in-232 c = arm high_words c.in-232.is tt

pub returns-in-233 : goal.returns-in-233
unfolding four_hashes hash house
returns-in-233 c = arm high_words c.in-233.is tt

pub returns-in-234 : goal.returns-in-234
unfolding four_hashes hash house
returns-in-234 c = arm high_words c.in-234.is tt

pub returns-in-235 : goal.returns-in-235
unfolding four_hashes hash house
returns-in-235 c = arm high_words c.in-235.is tt

pub returns-in-236 : goal.returns-in-236
unfolding four_hashes hash house
returns-in-236 c = arm high_words c.in-236.is tt

pub returns-in-237 : goal.returns-in-237
unfolding four_hashes hash house
returns-in-237 c = arm high_words c.in-237.is tt

pub returns-in-238 : goal.returns-in-238
unfolding four_hashes hash house
returns-in-238 c = arm high_words c.in-238.is tt

pub returns-in-239 : goal.returns-in-239
unfolding four_hashes hash house
returns-in-239 c = arm high_words c.in-239.is tt

pub returns-in-240 : goal.returns-in-240
unfolding four_hashes hash house
returns-in-240 c = arm high_words c.in-240.is tt

pub returns-in-241 : goal.returns-in-241
unfolding four_hashes hash house
returns-in-241 c = arm high_words c.in-241.is tt

pub returns-in-242 : goal.returns-in-242
unfolding four_hashes hash house
returns-in-242 c = arm high_words c.in-242.is tt

pub returns-in-243 : goal.returns-in-243
unfolding four_hashes hash house
returns-in-243 c = arm high_words c.in-243.is tt

pub returns-in-244 : goal.returns-in-244
unfolding four_hashes hash house
returns-in-244 c = arm high_words c.in-244.is tt

pub returns-in-245 : goal.returns-in-245
unfolding four_hashes hash house
returns-in-245 c = arm high_words c.in-245.is tt

pub returns-in-246 : goal.returns-in-246
unfolding four_hashes hash house
returns-in-246 c = arm high_words c.in-246.is tt

pub returns-in-247 : goal.returns-in-247
unfolding four_hashes hash house
returns-in-247 c = arm high_words c.in-247.is tt

pub returns-in-248 : goal.returns-in-248
unfolding four_hashes hash house
returns-in-248 c = arm high_words c.in-248.is tt

pub returns-in-249 : goal.returns-in-249
unfolding four_hashes hash house
returns-in-249 c = arm high_words c.in-249.is tt

pub returns-in-250 : goal.returns-in-250
unfolding four_hashes hash house
returns-in-250 c = arm high_words c.in-250.is tt

pub returns-in-251 : goal.returns-in-251
unfolding four_hashes hash house
returns-in-251 c = arm high_words c.in-251.is tt

pub returns-in-252 : goal.returns-in-252
unfolding four_hashes hash house
returns-in-252 c = arm high_words c.in-252.is tt

pub returns-in-253 : goal.returns-in-253
unfolding four_hashes hash house
returns-in-253 c = arm high_words c.in-253.is tt

pub returns-in-254 : goal.returns-in-254
unfolding four_hashes hash house
returns-in-254 c = arm high_words c.in-254.is tt

pub returns-in_default : goal.returns-in_default
unfolding four_hashes hash house
returns-in_default c = arm high_words (let last : c.args.v ≡ 255 = omega arith in last) tt
