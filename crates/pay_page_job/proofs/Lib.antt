mod OnOk
