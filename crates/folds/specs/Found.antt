-- Needs of a function that one search answers, all together: `found3 f (a, b, c)` is `f a b c`. The number says how many follow each other.
-- Assumes nothing.

pub found2 : {A B : Type 0} {R : Type 2} → (A → B → R) → A × B → R
found2 f p = f p.0 p.1

pub found3 : {A B C : Type 0} {R : Type 2} → (A → B → C → R) → A × B × C → R
found3 f p = f p.0 p.1 p.2

pub found4 : {A B C D : Type 0} {R : Type 2} → (A → B → C → D → R) → A × B × C × D → R
found4 f p = f p.0 p.1 p.2 p.3

pub found5 : {A B C D E : Type 0} {R : Type 2} → (A → B → C → D → E → R) → A × B × C × D × E → R
found5 f p = f p.0 p.1 p.2 p.3 p.4

pub found6 : {A B C D E F : Type 0} {R : Type 2} → (A → B → C → D → E → F → R) → A × B × C × D × E × F → R
found6 f p = f p.0 p.1 p.2 p.3 p.4 p.5

pub found7 : {A B C D E F G : Type 0} {R : Type 2} → (A → B → C → D → E → F → G → R) → A × B × C × D × E × F × G → R
found7 f p = f p.0 p.1 p.2 p.3 p.4 p.5 p.6

pub found8 : {A B C D E F G H : Type 0} {R : Type 2} → (A → B → C → D → E → F → G → H → R) → A × B × C × D × E × F × G × H → R
found8 f p = f p.0 p.1 p.2 p.3 p.4 p.5 p.6 p.7

pub found9 : {A B C D E F G H I : Type 0} {R : Type 2} → (A → B → C → D → E → F → G → H → I → R) → A × B × C × D × E × F × G × H × I → R
found9 f p = f p.0 p.1 p.2 p.3 p.4 p.5 p.6 p.7 p.8

pub found10 : {A B C D E F G H I J : Type 0} {R : Type 2} → (A → B → C → D → E → F → G → H → I → J → R) → A × B × C × D × E × F × G × H × I × J → R
found10 f p = f p.0 p.1 p.2 p.3 p.4 p.5 p.6 p.7 p.8 p.9

pub found11 : {A B C D E F G H I J K : Type 0} {R : Type 2} → (A → B → C → D → E → F → G → H → I → J → K → R) → A × B × C × D × E × F × G × H × I × J × K → R
found11 f p = f p.0 p.1 p.2 p.3 p.4 p.5 p.6 p.7 p.8 p.9 p.10

pub found12 : {A B C D E F G H I J K L : Type 0} {R : Type 2} → (A → B → C → D → E → F → G → H → I → J → K → L → R) → A × B × C × D × E × F × G × H × I × J × K × L → R
found12 f p = f p.0 p.1 p.2 p.3 p.4 p.5 p.6 p.7 p.8 p.9 p.10 p.11

pub found13 : {A B C D E F G H I J K L N : Type 0} {R : Type 2} → (A → B → C → D → E → F → G → H → I → J → K → L → N → R) → A × B × C × D × E × F × G × H × I × J × K × L × N → R
found13 f p = f p.0 p.1 p.2 p.3 p.4 p.5 p.6 p.7 p.8 p.9 p.10 p.11 p.12

pub found14 : {A B C D E F G H I J K L N O : Type 0} {R : Type 2} → (A → B → C → D → E → F → G → H → I → J → K → L → N → O → R) → A × B × C × D × E × F × G × H × I × J × K × L × N × O → R
found14 f p = f p.0 p.1 p.2 p.3 p.4 p.5 p.6 p.7 p.8 p.9 p.10 p.11 p.12 p.13

pub found15 : {A B C D E F G H I J K L N O P : Type 0} {R : Type 2} → (A → B → C → D → E → F → G → H → I → J → K → L → N → O → P → R) → A × B × C × D × E × F × G × H × I × J × K × L × N × O × P → R
found15 f p = f p.0 p.1 p.2 p.3 p.4 p.5 p.6 p.7 p.8 p.9 p.10 p.11 p.12 p.13 p.14

pub found16 : {A B C D E F G H I J K L N O P Q : Type 0} {R : Type 2} → (A → B → C → D → E → F → G → H → I → J → K → L → N → O → P → Q → R) → A × B × C × D × E × F × G × H × I × J × K × L × N × O × P × Q → R
found16 f p = f p.0 p.1 p.2 p.3 p.4 p.5 p.6 p.7 p.8 p.9 p.10 p.11 p.12 p.13 p.14 p.15
